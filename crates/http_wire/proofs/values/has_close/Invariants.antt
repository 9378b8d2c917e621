use Rattle.std.proofs.Common.{◌≡◌, ◌≤◌, length}
use Rattle.http_wire.specs.Headers.{has_close}
use Rattle.http_wire.proofs.values.has_close.Given as goal

abbrev pub invariant-loop-end : goal.invariant-loop-end
invariant-loop-end l = (has_close l.fn.value ≡ has_close l.rest) × (length l.rest ≤ length l.fn.value)

abbrev pub decreases-loop-end : goal.decreases-loop-end
decreases-loop-end l = length l.rest
