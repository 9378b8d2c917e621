use Rattle.lti_machine.proofs.PartLemmas.{live_is_part}
use Rattle.lti_machine.proofs.laws.live_is_part.Goals as goal

pub returns : goal.returns
returns c = live_is_part
