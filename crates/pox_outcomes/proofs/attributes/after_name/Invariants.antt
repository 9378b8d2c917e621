use Rattle.std.proofs.Common.{◌≡◌, length}
use Rattle.pox_outcomes.specs.Attributes.{after_name}
use Rattle.pox_outcomes.proofs.attributes.after_name.Given as goal

abbrev pub invariant-loop-rest : goal.invariant-loop-rest
invariant-loop-rest l = after_name l.fn.bytes ≡ after_name l.rest

abbrev pub decreases-loop-rest : goal.decreases-loop-rest
decreases-loop-rest l = length l.rest
