use Rattle.lti_machine.proofs.SummaryLemmas.{summary_decides}
use Rattle.lti_machine.proofs.laws.summary_decides.Goals as goal

pub returns : goal.returns
returns c = summary_decides
