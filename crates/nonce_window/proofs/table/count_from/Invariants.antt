use Rattle.std.proofs.Common.{◌≡◌}
use Rattle.nonce_window.specs.Nonces.{total}
use Rattle.nonce_window.proofs.table.count_from.Given as goal

abbrev pub invariant-loop-minute : goal.invariant-loop-minute
invariant-loop-minute l = l.left ≡ total l.number l.minute l.table.entries
