use Rattle.oauth_request.proofs.BelievedLemmas as lemmas
use Rattle.oauth_request.proofs.laws.signed_is_believed.Goals as goal

pub returns : goal.returns
returns c = lemmas.signed_is_believed
