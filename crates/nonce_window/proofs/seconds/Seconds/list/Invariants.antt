use Rattle.std.proofs.Common.{◌≡◌, filter, nat_eq}
use Rattle.std.specs.Int.{bit_at}
use Rattle.nonce_window.specs.Minutes.{below}
use Rattle.nonce_window.proofs.seconds.Seconds.list.Given as goal

abbrev pub invariant-loop-second : goal.invariant-loop-second
invariant-loop-second l = l.seconds.items ≡ filter (λ s. nat_eq (bit_at l.bits s) 1) (below l.second)
