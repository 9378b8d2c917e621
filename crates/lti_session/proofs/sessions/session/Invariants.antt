use Rattle.std.proofs.Common.{◌-◌}
use Rattle.lti_session.proofs.ConnectionLemmas.{SoFar}
use Rattle.lti_session.proofs.sessions.session.Given as goal

abbrev pub invariant-calls : goal.invariant-calls
invariant-calls g l =
    SoFar g.M.Machine.step record { limits = l.fn.limits; caller = 0; keys = l.fn.settings.keys; scheme = l.fn.settings.scheme; clock = g.C.Clock.tells l.fn.clock }
    (g.L.Outside.traffic l.fn.link) (g.L.Outside.traffic l.link) l.fn.machine l.machine l.session

abbrev pub decreases-calls : goal.decreases-calls
decreases-calls g l = l.limits.requests - l.session.count
