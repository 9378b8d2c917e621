use Rattle.lti_asks.proofs.OutcomeLemmas as lemmas
use Rattle.lti_asks.proofs.laws.accepted_is_told.Goals as goal

pub returns : goal.returns
returns c = lemmas.accepted_is_told
