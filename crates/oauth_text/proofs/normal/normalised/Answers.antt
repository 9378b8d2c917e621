use Rattle.oauth_text.proofs.NormalLemmas.{normal_once}
use Rattle.oauth_text.proofs.normal.normalised.Goals as goal

pub returns-clause-only : goal.returns-clause-only
returns-clause-only c = λ other normal. normal_once _ _ _ c.in_ok-text.ensures normal
