use Rattle.std.proofs.Common.{[], inl, refl, sym}
use Rattle.lti_outside.specs.Traffic.{no_fault}
use Rattle.lti_outside.proofs.TrafficLemmas.{Moves-same, Moves-gives}
use Rattle.lti_session.proofs.TalkLemmas.{Talks-none, Talks-read}
use Rattle.lti_session.proofs.EndLemmas.{after_read}
use Rattle.lti_session.proofs.asking.Session.next.Goals as goal

pub returns-then-self-limits-clause-talk : goal.returns-then-self-limits-clause-talk
returns-then-self-limits-clause-talk g c =
    rw (sym c.self.view_is) record { read = []; written = []; fault = no_fault; moves = Moves-same _; talks = Talks-none _ _ _ _ _ _ _ _ ((refl, refl, c.if-self-limits.true), refl) }

pub returns-then-self-clause-talk : goal.returns-then-self-clause-talk
returns-then-self-clause-talk g c =
    rw (sym c.self.view_is) record { read = []; written = []; fault = no_fault; moves = Moves-same _; talks = Talks-none _ _ _ _ _ _ _ _ ((refl, refl, inl (c.if-self.true, c.if-self-limits.false)), refl) }

pub returns-in-Ok-Some-clause-talk : goal.returns-in-Ok-Some-clause-talk
returns-in-Ok-Some-clause-talk g c =
    let found = rw c.in-Ok-Some.field-0-is at c.in-Ok-Some.ensures.bytes in
    let took = c.take.ensures.talk in
    rw (sym c.self.view_is) record {
      read = found.0;
      written = took.0;
      fault = took.1;
      moves = Moves-gives found.1 took.2;
      talks = Talks-read _ _ _ _ _ _ _ _ _ _ found.2.2 (took.3 found.2.0 found.2.1);
    }

pub returns-in-Err : goal.returns-in-Err
returns-in-Err g c =
    let found = c.in-Err.ensures.bytes in
    let refused = c.refuse.ensures in
    rw (sym c.self.view_is) record {
      talk = after_read _ _ (g.L.Outside.traffic c.read_request.new.link) _ _ _ found.0 refused.0 c.in-Err.fault refused.1 c.refuse.result c.if-self.false refl found.1 found.2 refused.2 refused.3;
      caller = refl;
      count = tt;
    }
