use Rattle.oauth_sign.proofs.SignatureLemmas.{base_once}
use Rattle.oauth_sign.proofs.base_strings.base_string.Goals as goal

pub returns-clause-only : goal.returns-clause-only
returns-clause-only c = λ other is. base_once _ _ _ _ _ c.in_ok-text.ensures is
