use Rattle.std.proofs.Common.{◌≡◌, ◌+◌, filter, nat_eq}
use Rattle.std.specs.Int.{bit_at}
use Rattle.std.specs.List.{sum_by}
use Rattle.nonce_window.specs.Minutes.{below}
use Rattle.nonce_window.specs.Sizes.{capped}
use Rattle.nonce_window.proofs.seconds.Seconds.size.Given as goal

abbrev pub invariant-loop-second : goal.invariant-loop-second
invariant-loop-second l = l.total ≡ capped (l.size + sum_by (λ _. l.each) (filter (λ s. nat_eq (bit_at l.bits s) 1) (below l.second)))
