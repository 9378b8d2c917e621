use Rattle.lti_roles.proofs.PrefixLemmas.{behind_is}
use Rattle.lti_roles.proofs.element.behind.Goals as goal

pub returns : goal.returns
returns c = behind_is c.args.prefix.now c.args.element.now c.strip_prefix.result c.strip_prefix.ensures.cases
