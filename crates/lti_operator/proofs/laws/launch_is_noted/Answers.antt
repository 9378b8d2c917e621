use Rattle.lti_operator.proofs.NotedLemmas as lemmas
use Rattle.lti_operator.proofs.laws.launch_is_noted.Goals as goal

pub returns : goal.returns
returns c = lemmas.launch_is_noted
