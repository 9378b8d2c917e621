use Rattle.lti_operator.proofs.ReportLemmas.{total}
use Rattle.lti_operator.proofs.laws.total_is_near.Goals as goal

pub returns : goal.returns
returns c = total
