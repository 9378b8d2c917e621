use Rattle.lti_machine.proofs.SummaryLemmas.{digest_serves_at_moment}
use Rattle.lti_machine.proofs.laws.digest_serves_at_moment.Goals as goal

pub returns : goal.returns
returns c = digest_serves_at_moment
