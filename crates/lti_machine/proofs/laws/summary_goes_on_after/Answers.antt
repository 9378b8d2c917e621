use Rattle.lti_machine.proofs.SummaryLemmas.{summary_goes_on_after}
use Rattle.lti_machine.proofs.laws.summary_goes_on_after.Goals as goal

pub returns : goal.returns
returns c = summary_goes_on_after
