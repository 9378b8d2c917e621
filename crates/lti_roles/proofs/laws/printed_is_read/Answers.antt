use Rattle.lti_roles.proofs.BackLemmas.{printed_is_read}
use Rattle.lti_roles.proofs.laws.printed_is_read.Goals as goal

pub returns : goal.returns
returns c = printed_is_read
