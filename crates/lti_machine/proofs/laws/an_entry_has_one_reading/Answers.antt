use Rattle.lti_machine.proofs.FrontLemmas.{entry_once}
use Rattle.lti_machine.proofs.laws.an_entry_has_one_reading.Goals as goal

pub returns : goal.returns
returns c = entry_once
