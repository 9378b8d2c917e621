use Rattle.lti_provider.proofs.WritableLemmas as lemmas
use Rattle.lti_provider.proofs.laws.signed_is_writable.Goals as goal

pub returns : goal.returns
returns c = lemmas.signed_is_writable
