-- What holds of a fault holds of the result that carries it.
use Rattle.std.proofs.Common.{◌≡◌, sym, subst, Result, Ok, Err}
use Rattle.std.specs.Prelude.{IfErr, IsErrAnd}

pub IfErr_carried : {T E : Type 0} (P : E → Type 0) (r : Result T E) (fault : E) → IsErrAnd r (λ e. e ≡ fault) → P fault → IfErr r P
IfErr_carried P (Ok x) fault is so = absurd is
IfErr_carried P (Err e) fault is so = subst P (sym is) so
