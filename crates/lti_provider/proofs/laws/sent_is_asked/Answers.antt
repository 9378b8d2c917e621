use Rattle.lti_provider.proofs.AskedLemmas as lemmas
use Rattle.lti_provider.proofs.laws.sent_is_asked.Goals as goal

pub returns : goal.returns
returns c = lemmas.sent_is_asked
