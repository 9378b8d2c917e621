use Rattle.lti_roles.proofs.NameLemmas.{names_are_read}
use Rattle.lti_roles.proofs.laws.names_are_read.Goals as goal

pub returns : goal.returns
returns c = names_are_read
