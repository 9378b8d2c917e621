use Rattle.lti_machine.proofs.RangeLemmas.{digest_is_in_range}
use Rattle.lti_machine.proofs.laws.digest_is_in_range.Goals as goal

pub returns : goal.returns
returns c = digest_is_in_range
