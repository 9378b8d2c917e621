use Rattle.std.proofs.Common.{◌≡◌, length}
use Rattle.pox_outcomes.specs.Elements.{after_element_name}
use Rattle.pox_outcomes.proofs.elements.after_element_name.Given as goal

abbrev pub invariant-loop-rest : goal.invariant-loop-rest
invariant-loop-rest l = after_element_name l.fn.bytes ≡ after_element_name l.rest

abbrev pub decreases-loop-rest : goal.decreases-loop-rest
decreases-loop-rest l = length l.rest
