use Rattle.oauth_sign.proofs.SignatureLemmas.{signature_once}
use Rattle.oauth_sign.proofs.streamed_signatures.signature_of.Goals as goal

pub returns-clause-only : goal.returns-clause-only
returns-clause-only c = λ other is. signature_once _ _ _ _ _ _ _ c.in_ok-text.ensures is
