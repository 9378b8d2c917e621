use Rattle.std.proofs.Common.{ap, nat_eq}
use Rattle.std.proofs.lemmas.Nat.Bits.{shr_and_one}
use Rattle.nonce_window.proofs.seconds.is_set.Goals as goal

pub returns : goal.returns
returns c = ap (λ n. nat_eq n 1) (shr_and_one c.args.bits c.args.second)
