use Rattle.std.proofs.Common.{◌-◌, ◌≤◌}
use Rattle.lti_doors.proofs.lingering.drain.Given as goal

abbrev pub invariant-loop-count : goal.invariant-loop-count
invariant-loop-count g l = l.count ≤ 65536

abbrev pub decreases-loop-count : goal.decreases-loop-count
decreases-loop-count g l = 65536 - l.count
