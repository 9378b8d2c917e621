use Rattle.std.proofs.Common.{[], refl, ◌∙◌, append-nil}
use Rattle.lti_outside.specs.Traffic.{no_fault}
use Rattle.lti_outside.proofs.TrafficLemmas.{Moves-same}
use Rattle.lti_session.specs.Talk.{answered, waiting, ended}
use Rattle.lti_session.proofs.TalkLemmas.{Talks-none, Spoken-then, Spoken-caller}
use Rattle.lti_session.proofs.asking.Session.ask.Goals as goal

pub messages-init : goal.messages-init
messages-init g c = record {
  talk = record {
    read = [];
    written = [];
    fault = no_fault;
    moves = Moves-same _;
    talks = Talks-none _ _ _ _ _ _ _ _ (refl, refl, record { kept = append-nil _; count = refl; over = refl; pending = c.requires.idle; lives = c.requires.lives });
  };
  caller = refl;
}

pub messages-preserved : goal.messages-preserved
messages-preserved g c = record {
  talk = Spoken-then _ _ _ _ _ _ _ [] [] answered c.messages.invariant.talk (Spoken-caller _ _ _ _ _ _ _ _ _ _ _ _ c.messages.invariant.caller c.in-Refused.ensures.talk);
  caller = c.next.ensures.caller ∙ c.messages.invariant.caller;
}

pub next-requires-clause-idle : goal.next-requires-clause-idle
next-requires-clause-idle g c = c.messages.invariant.talk.talks.stage_is.2.pending

pub next-requires-clause-lives : goal.next-requires-clause-lives
next-requires-clause-lives g c = c.messages.invariant.talk.talks.stage_is.2.lives

pub returns-in-Asked-clause-talk : goal.returns-in-Asked-clause-talk
returns-in-Asked-clause-talk g c =
    Spoken-then _ _ _ _ _ _ _ [] [] (waiting c.in-Asked.call) c.messages.invariant.talk (Spoken-caller _ _ _ _ _ _ _ _ _ _ _ _ c.messages.invariant.caller c.in-Asked.ensures.talk)

pub returns-in-Over-clause-talk : goal.returns-in-Over-clause-talk
returns-in-Over-clause-talk g c =
    Spoken-then _ _ _ _ _ _ _ [] [] (ended c.in-Over.end) c.messages.invariant.talk (Spoken-caller _ _ _ _ _ _ _ _ _ _ _ _ c.messages.invariant.caller c.in-Over.ensures.talk)
