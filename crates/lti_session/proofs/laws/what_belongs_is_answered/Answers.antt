use Rattle.lti_session.proofs.RenderLemmas.{answer_owed}
use Rattle.lti_session.proofs.laws.what_belongs_is_answered.Goals as goal

pub returns : goal.returns
returns c = answer_owed
