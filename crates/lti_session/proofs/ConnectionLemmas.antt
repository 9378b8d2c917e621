-- A connection over whatever machine: how it begins, goes on behind an answer, is cut in one, and ends.
use Rattle.std.proofs.Common.{◌≡◌, ◌<◌, ◌-◌, ℕ, List, [], ◌∷◌, ◌++◌, true, false, refl, ap, ◌∙◌, subst, append-nil, arith, None}
use Rattle.lti_outside.specs.Traffic.{Traffic, Fault, no_fault, write_fault, Moves, GivesFront}
use Rattle.lti_outside.proofs.TrafficLemmas.{Moves-same, Moves-gives}
use Rattle.lti_machine.specs.Belongs.{belongs}
use Rattle.lti_machine.specs.History.{Member, Leads}
use Rattle.lti_machine.proofs.HistoryLemmas.{leads_push}
use Rattle.lti_machine.specs.declared.call.Call.{Call}
use Rattle.lti_machine.specs.declared.reply.Reply.{Reply}
use Rattle.lti_session.specs.State.{SessionState}
use Rattle.lti_session.specs.Exchange.{Service}
use Rattle.lti_session.specs.Talk.{Stage, answered, waiting, ended, Spoken, IsOwed, HasAnswer, ends_then}
use Rattle.lti_session.specs.Transcript.{IsServed}
use Rattle.lti_session.specs.declared.session_end.SessionEnd.{SessionEnd}
use Rattle.lti_session.specs.declared.session_end.SessionEnd.TheVariants.{WriteFault}
use Rattle.lti_session.proofs.TalkLemmas.{Talks-none, Spoken-then, Spoken-caller, Talks-whole, Runs-count, told_ok, told_cut}
use Rattle.lti_session.proofs.RenderLemmas.{answer_owed}

-- a session of a connection from which nothing was taken
abbrev pub fresh : ℕ → SessionState
fresh caller = record { kept = []; caller = caller; count = 0; over = false; pending = None; ended = false }

-- the service as the session names it, whose caller has this number
abbrev pub called_by : Service → SessionState → Service
called_by service session = record { limits = service.limits; caller = session.caller; keys = service.keys; scheme = service.scheme; clock = service.clock }

-- each message so far was answered, and each call was one step of the machine
pub record SoFar {S : Type 0} (step : S → Call → Reply → S → Type 0) (service : Service) (before now : Traffic) (from at : S) (session : SessionState) : Type 0 where
  pub told : List Member
  pub spoken : Spoken service before now (fresh service.caller) session told answered
  pub steps : Leads step from told at
  pub caller : session.caller ≡ service.caller

module _ (S : Type 0) (step : S → Call → Reply → S → Type 0) (service : Service) (before : Traffic) (from : S) where
  pub connection_begins : SoFar step service before before from from (fresh service.caller)
  connection_begins = record {
    told = [];
    spoken = record { read = []; written = []; fault = no_fault; moves = Moves-same before; talks = Talks-none _ _ _ _ _ _ _ _ (refl, refl, record { kept = refl; count = refl; over = refl; pending = refl; lives = refl }) };
    steps = refl;
    caller = refl;
  }

-- the session reads on behind what it has answered
module _ (S : Type 0) (step : S → Call → Reply → S → Type 0) (service : Service) (before now asked : Traffic) (from at : S) (session mid : SessionState)
    (so_far : SoFar step service before now from at session) where
  spoken_on : (stage : Stage) → Spoken (called_by service session) now asked session mid [] stage → Spoken service before asked (fresh service.caller) mid so_far.told stage
  spoken_on stage spoken =
      let same : Spoken service now asked session mid [] stage
      = Spoken-caller service.limits session.caller service.caller service.keys service.scheme service.clock now asked session mid [] stage so_far.caller spoken in
      subst (λ (ms : List Member). Spoken service before asked (fresh service.caller) mid ms stage) (append-nil so_far.told)
      (Spoken-then service before now asked (fresh service.caller) session mid so_far.told [] stage so_far.spoken same)

  pub connection_ends : (end : SessionEnd) → Spoken (called_by service session) now asked session mid [] (ended end) → IsServed step service before asked from at end
  connection_ends end spoken =
      let whole = spoken_on (ended end) spoken in
      record {
        read = whole.read;
        written = whole.written;
        told = so_far.told;
        fault = whole.fault;
        moves = whole.moves;
        answered = so_far.steps;
        transcript = Talks-whole _ _ _ _ _ _ _ _ _ whole.talks;
      }

  -- it reads a call, which the machine answers by a step
  module _ (call : Call) (waits : Spoken (called_by service session) now asked session mid [] (waiting call)) (reply : Reply) (next : S) (makes : step at call reply next) where
    abbrev whole : Spoken service before asked (fresh service.caller) mid so_far.told (waiting call)
    whole = spoken_on (waiting call) waits

    abbrev all_told : List Member
    all_told = so_far.told ++ (call, reply) ∷ []

    moved : Moves before asked whole.read whole.written no_fault
    moved = subst (λ (f : Fault). Moves before asked whole.read whole.written f) whole.talks.stage_is.0 whole.moves

    pub connection_cut : (after : Traffic) (new : SessionState) → (answer : List ℕ) × IsOwed mid.pending reply answer × GivesFront asked after answer → new.ended ≡ true
        → IsServed step service before after from next WriteFault
    connection_cut after new (answer, owed, cut) over = record {
      read = whole.read;
      written = whole.written ++ cut.front;
      told = all_told;
      fault = write_fault;
      moves = Moves-gives moved cut.moves;
      answered = leads_push step from at next so_far.told call reply so_far.steps makes;
      transcript = Talks-whole _ _ _ _ _ _ _ _ _ (told_cut _ _ _ _ _ new _ _ _ _ _ _ _ _ _ whole.talks owed refl cut.proper over);
    }

    pub connection_goes_on : (after : Traffic) (new : SessionState) → (answer : List ℕ) × IsOwed mid.pending reply answer × Moves asked after [] answer no_fault
        → new ≡ record mid { pending = None; over = ends_then mid.pending } → mid.caller ≡ session.caller
        → SoFar step service before after from next new
    connection_goes_on after new (answer, owed, given) is same = record {
      told = all_told;
      spoken = record {
        read = whole.read;
        written = whole.written ++ answer;
        fault = no_fault;
        moves = Moves-gives moved given;
        talks = told_ok _ _ _ _ _ _ _ _ _ _ _ _ _ _ _ whole.talks owed refl refl is;
      };
      steps = leads_push step from at next so_far.told call reply so_far.steps makes;
      caller = ap (λ (s : SessionState). s.caller) is ∙ same ∙ so_far.caller;
    }

-- the reply belongs to the call, and so has an answer
pub connection_answers : (service : Service) (now asked : Traffic) (session mid : SessionState) (call : Call) → Spoken service now asked session mid [] (waiting call)
    → (reply : Reply) → belongs call.action reply ≡ true → HasAnswer mid.pending reply
connection_answers service now asked session mid call waits reply fits = answer_owed _ _ _ _ _ waits.talks.stage_is.2 reply fits

-- a connection has so many requests at most, and is one nearer to its last
pub connection_shrinks : (service : Service) (now asked : Traffic) (session mid new : SessionState) (call : Call) → Spoken service now asked session mid [] (waiting call)
    → new ≡ record mid { pending = None; over = ends_then mid.pending } → service.limits.requests - new.count < service.limits.requests - session.count
connection_shrinks service now asked session mid new call waits is =
    let rises = Runs-count _ _ _ _ waits.talks.runs in
    let same = ap (λ (s : SessionState). s.count) is in
    omega (arith, rises, same, waits.talks.stage_is.2.below, waits.talks.stage_is.2.count)
