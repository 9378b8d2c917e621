use Rattle.lti_asks.proofs.OutcomeLemmas as lemmas
use Rattle.lti_asks.proofs.laws.one_telling.Goals as goal

pub returns : goal.returns
returns c = lemmas.one_telling
