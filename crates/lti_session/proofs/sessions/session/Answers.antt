use Rattle.lti_session.proofs.ConnectionLemmas.{connection_begins, connection_ends, connection_cut, connection_goes_on, connection_answers, connection_shrinks}
use Rattle.lti_session.proofs.sessions.session.Goals as goal

pub calls-init : goal.calls-init
calls-init g c = rw c.new-session.ensures (connection_begins _ _ _ _ _)

pub ask-requires-clause-idle : goal.ask-requires-clause-idle
ask-requires-clause-idle g c = c.calls.invariant.spoken.talks.stage_is.2.pending

pub ask-requires-clause-lives : goal.ask-requires-clause-lives
ask-requires-clause-lives g c = c.calls.invariant.spoken.talks.stage_is.2.lives

pub returns-in-End : goal.returns-in-End
returns-in-End g c = connection_ends _ _ _ _ _ _ _ _ _ _ c.calls.invariant c.in-End.end c.in-End.ensures.talk

pub tell-requires-clause-fits : goal.tell-requires-clause-fits
tell-requires-clause-fits g c = connection_answers _ _ _ _ _ _ c.in-Call.ensures.talk c.answer-reply.result c.answer-reply.ensures.belongs

pub returns-in-Err : goal.returns-in-Err
returns-in-Err g c =
    connection_cut _ _ _ _ _ _ _ _ _ _ c.calls.invariant _ c.in-Call.ensures.talk _ _ c.answer-reply.ensures.step _ c.tell.new.self c.in-Err.ensures.cut c.in-Err.ensures.err

pub calls-preserved : goal.calls-preserved
calls-preserved g c =
    connection_goes_on _ _ _ _ _ _ _ _ _ _ c.calls.invariant _ c.in-Call.ensures.talk _ _ c.answer-reply.ensures.step _ _ c.in-Ok.ensures.told c.in-Ok.ensures.ok c.ask.ensures.caller

pub calls-smaller : goal.calls-smaller
calls-smaller g c = connection_shrinks _ _ _ _ _ _ _ c.in-Call.ensures.talk c.in-Ok.ensures.ok
