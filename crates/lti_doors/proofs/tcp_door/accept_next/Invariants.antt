use Rattle.lti_doors.specs.Accepting.{Makes, PassesBy}
use Rattle.lti_doors.proofs.tcp_door.accept_next.Given as goal

-- each attempt so far is followed by another
abbrev pub invariant-loop : goal.invariant-loop
invariant-loop g l = Makes (g.L.Accepting.attempts l.fn.listener) (g.L.Accepting.attempts l.listener) (PassesBy l.counter)
