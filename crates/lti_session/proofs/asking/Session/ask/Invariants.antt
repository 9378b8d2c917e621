use Rattle.std.proofs.Common.{◌≡◌, ◌-◌, []}
use Rattle.lti_session.specs.Talk.{Spoken, answered}
use Rattle.lti_session.proofs.asking.Session.ask.Given as goal

-- each message so far was answered
abbrev pub invariant-messages : goal.invariant-messages
invariant-messages g l = record {
  talk : Spoken record { limits = l.fn.limits; caller = l.fn.self.caller; keys = l.fn.settings.keys; scheme = l.fn.settings.scheme; clock = g.C.Clock.tells l.fn.clock }
      (g.L.Outside.traffic l.fn.link) (g.L.Outside.traffic l.link) l.fn.self l.self [] answered;
  caller : l.self.caller ≡ l.fn.self.caller;
}

abbrev pub decreases-messages : goal.decreases-messages
decreases-messages g l = l.limits.requests - l.self.count
