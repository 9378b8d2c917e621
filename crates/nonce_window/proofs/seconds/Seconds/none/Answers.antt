use Rattle.std.proofs.Common.{nat_eq, ap}
use Rattle.std.specs.Int.{bit_at}
use Rattle.std.proofs.lemmas.Nat.Bits.{bit_at-zero}
use Rattle.nonce_window.proofs.SecondLemmas.{none_below}
use Rattle.nonce_window.proofs.seconds.Seconds.none.Goals as goal

pub returns : goal.returns
returns c = none_below (λ s. nat_eq (bit_at 0 s) 1) 60 (λ t. ap (λ n. nat_eq n 1) (bit_at-zero t))
