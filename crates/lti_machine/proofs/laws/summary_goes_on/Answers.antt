use Rattle.lti_machine.proofs.SummaryLemmas.{summary_goes_on}
use Rattle.lti_machine.proofs.laws.summary_goes_on.Goals as goal

pub returns : goal.returns
returns c = summary_goes_on
