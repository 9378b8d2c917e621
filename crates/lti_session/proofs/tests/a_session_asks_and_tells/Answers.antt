use Rattle.lti_session.proofs.RenderLemmas.{no_memory_owed}
use Rattle.lti_session.proofs.tests.a_session_asks_and_tells.Goals as goal

pub tell-requires-clause-fits : goal.tell-requires-clause-fits
tell-requires-clause-fits g c = no_memory_owed _ _ _ _ _ c.in-Call.ensures.talk.talks.stage_is.2
