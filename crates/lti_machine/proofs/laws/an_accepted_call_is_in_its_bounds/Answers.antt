use Rattle.lti_machine.proofs.BoundLemmas.{accepted_bounded}
use Rattle.lti_machine.proofs.laws.an_accepted_call_is_in_its_bounds.Goals as goal

pub returns : goal.returns
returns c = accepted_bounded
