use Rattle.std.proofs.Common.{sym, subst}
use Rattle.std.proofs.lemmas.Bool.{false≢true}
use Rattle.nonce_window.specs.Fresh.{IsKnown}
use Rattle.nonce_window.proofs.KnownLemmas.{known_none}
use Rattle.nonce_window.proofs.window.NonceWindow.new.Goals as goal

pub invariant_of-result : goal.invariant_of-result
invariant_of-result c = record {
  known = subst (λ l. IsKnown l 0) (sym c.new.ensures) known_none;
  next = tt;
  idle = λ h. absurd (false≢true h);
}
