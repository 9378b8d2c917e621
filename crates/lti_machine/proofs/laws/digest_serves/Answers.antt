use Rattle.lti_machine.proofs.SummaryLemmas.{digest_serves}
use Rattle.lti_machine.proofs.laws.digest_serves.Goals as goal

pub returns : goal.returns
returns c = digest_serves
