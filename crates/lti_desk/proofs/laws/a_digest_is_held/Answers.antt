use Rattle.lti_desk.proofs.HeldLemmas.{holds_alike, holds_digest}
use Rattle.lti_desk.proofs.laws.a_digest_is_held.Goals as goal

pub returns-clause-alike : goal.returns-clause-alike
returns-clause-alike c = holds_alike

pub returns-clause-digest : goal.returns-clause-digest
returns-clause-digest c = holds_digest
