-- One stretch of a session after another.
use Rattle.std.proofs.Common.{◌≡◌, ◌<◌, ◌≤◌, ◌⊎◌, ◌+◌, ℕ, List, [], ◌∷◌, ◌++◌, true, false, inl, inr, refl, sym, ap, ◌∙◌, subst, append_assoc, append-nil, arith, Option, Some, None}
use Rattle.std.proofs.lemmas.Grind.{flat_map-append}
use Rattle.lti_outside.specs.Traffic.{Traffic, Fault, no_fault, write_fault, Moves, IsProperPrefix, IsAtEnd}
use Rattle.lti_outside.specs.declared.limits.Limits.{Limits}
use Rattle.lti_outside.specs.declared.pairs.Pair.{Pair}
use Rattle.oauth_text.specs.declared.url.Scheme.{Scheme}
use Rattle.lti_outside.proofs.TrafficLemmas.{Moves-then}
use Rattle.http_wire.specs.Message.{ResponseParts}
use Rattle.http_wire.specs.Spelling.{WireFaultOf}
use Rattle.http_wire.specs.Response.{response_text}
use Rattle.http_wire.specs.declared.fault.WireFault.{WireFault}
use Rattle.lti_machine.specs.declared.call.Call.{Call}
use Rattle.lti_machine.specs.declared.reply.Reply.{Reply}
use Rattle.lti_session.specs.declared.session_end.SessionEnd.{SessionEnd}
use Rattle.lti_session.specs.declared.session_end.SessionEnd.TheVariants.{Ended, LimitReached, CutShort, ReadFault, WriteFault, Refused, NoMemory}
use Rattle.lti_machine.specs.Rules.{after}
use Rattle.lti_provider.specs.Answers.{wire_answer, no_memory_answer}
use Rattle.lti_machine.specs.History.{Member}
use Rattle.lti_session.specs.State.{SessionState}
use Rattle.lti_session.specs.Exchange.{Service, Exchange, Progress, IsExchange, Runs, told_by, read_of, written_of, told_of, ends_with}
use Rattle.lti_session.specs.Talk.{EndTells, Stage, answered, waiting, ended, StageTells, Talks, Spoken, Transcript, last_answer, IsOwed, ends_then}

abbrev progress : SessionState → Progress
progress s = record { count = s.count; over = s.over }

pub Runs-append : (t : Service) (q s : Progress) (es fs : List Exchange) (p : Progress) → Runs t p es q → Runs t q fs s → Runs t p (es ++ fs) s
Runs-append t q s [] fs p first second = subst (λ (x : Progress). Runs t x fs s) first second
Runs-append t q s (e ∷ es) fs p first second = (first.0, first.1, first.2, Runs-append t q s es fs record { count = p.count + 1; over = e.ends } first.3 second)

-- the count never falls
pub Runs-count : (t : Service) (es : List Exchange) (p q : Progress) → Runs t p es q → p.count ≤ q.count
Runs-count t [] p q runs = omega (arith, ap (λ (x : Progress). x.count) runs)
Runs-count t (e ∷ es) p q runs = omega (arith, Runs-count t es record { count = p.count + 1; over = e.ends } q runs.3)

-- what is a proper prefix stays one behind the same bytes
prefix_behind : (front written whole : List ℕ) → IsProperPrefix written whole → IsProperPrefix (front ++ written) (front ++ whole)
prefix_behind front written whole p = (p.0, p.1, ap (λ x. front ++ x) p.2 ∙ sym (append_assoc front written p.0))

-- what ends a stretch ends it behind what was written before
module _ (limits : Limits) (after : Traffic) (to : Progress) (rest front answers written : List ℕ) (fault : Fault) where
  abbrev Behind : SessionEnd → Type 0
  Behind end = EndTells limits after to rest (front ++ answers) (front ++ written) fault end

  pub end_behind : (end : SessionEnd) → EndTells limits after to rest answers written fault end → Behind end
  end_behind Ended e = (e.0, ap (λ x. front ++ x) e.1, e.2)
  end_behind LimitReached e = (e.0, ap (λ x. front ++ x) e.1, e.2)
  end_behind CutShort e = (e.0, ap (λ x. front ++ x) e.1, e.2, e.3)
  end_behind ReadFault e = (e.0, ap (λ x. front ++ x) e.1, e.2, e.3)
  end_behind (Refused refusal) e =
      (e.0, e.1, e.2, e.3, e.4, ap (λ x. front ++ x) e.5 ∙ sym (append_assoc front answers (last_answer e.3)))
  end_behind NoMemory e = (
    e.0,
    elim e.1 as (λ _. ((fault ≡ no_fault) × (front ++ written ≡ (front ++ answers) ++ last_answer no_memory_answer))
        ⊎ ((fault ≡ write_fault) × (part : List ℕ) × IsProperPrefix part (last_answer no_memory_answer) × (front ++ written ≡ (front ++ answers) ++ part))) [
          | inl all ↦ inl (all.0, ap (λ x. front ++ x) all.1 ∙ sym (append_assoc front answers (last_answer no_memory_answer)))
          | inr some ↦ inr (some.0, some.1, some.2, ap (λ x. front ++ x) some.3 ∙ sym (append_assoc front answers some.1))
        ],
  )
  end_behind WriteFault e = (
    e.0,
    elim e.1 as (λ _. IsProperPrefix (front ++ written) (front ++ answers)
        ⊎ ((refusal : WireFault) × (to.over ≡ false) × WireFaultOf limits rest (IsAtEnd after) refusal
        × (answer : ResponseParts) × (wire_answer refusal ≡ Some answer) × IsProperPrefix (front ++ written) ((front ++ answers) ++ last_answer answer))) [
          | inl short ↦ inl (prefix_behind front written answers short)
          | inr f ↦ inr (f.0, f.1, f.2, f.3, f.4, subst (λ (x : List ℕ). IsProperPrefix (front ++ written) x) (sym (append_assoc front answers (last_answer f.3))) (prefix_behind front written (answers ++ last_answer f.3) f.5))
        ],
  )

module _ (t : Service) (after : Traffic) (to : Progress) (rest front answers written : List ℕ) (fault : Fault) (new : SessionState) where
  pub stage_behind : (stage : Stage) → StageTells t after to rest new answers written fault stage → StageTells t after to rest new (front ++ answers) (front ++ written) fault stage
  stage_behind answered s = (s.0, ap (λ x. front ++ x) s.1, s.2)
  stage_behind (waiting call) s = (s.0, ap (λ x. front ++ x) s.1, s.2)
  stage_behind (ended end) s = (end_behind t.limits after to rest front answers written fault end s.0, s.1)

-- a stretch after one whose requests are all answered
pub Talks-then : (t : Service) (b c : Traffic) (old mid new : SessionState) (r s v w : List ℕ) (told more : List Member) (none fault : Fault) (stage : Stage)
    → Talks t b old mid r v told none answered → Talks t c mid new s w more fault stage
    → Talks t c old new (r ++ s) (v ++ w) (told ++ more) fault stage
Talks-then t b c old mid new r s v w told more none fault stage first second =
    let idle = first.stage_is.2 in
    let same : first.to ≡ progress mid = λ i. record { count = sym idle.count i; over = sym idle.over i } in
    record {
      exchanges = first.exchanges ++ second.exchanges;
      to = second.to;
      runs = Runs-append t (progress mid) second.to first.exchanges second.exchanges (progress old) (subst (λ (p : Progress). Runs t (progress old) first.exchanges p) same first.runs) second.runs;
      rest = second.rest;
      bytes = sym (append_assoc old.kept r s) ∙ ap (λ x. x ++ s) (first.bytes ∙ ap (λ x. read_of first.exchanges ++ x) idle.kept)
          ∙ append_assoc (read_of first.exchanges) mid.kept s ∙ ap (λ x. read_of first.exchanges ++ x) second.bytes
          ∙ sym (append_assoc (read_of first.exchanges) (read_of second.exchanges) second.rest)
          ∙ ap (λ x. x ++ second.rest) (sym (flat_map-append (λ (e : Exchange). e.spelled) first.exchanges second.exchanges));
      told_is = ap (λ x. x ++ more) first.told_is ∙ ap (λ x. told_of first.exchanges ++ x) second.told_is
          ∙ sym (flat_map-append (λ (e : Exchange). told_by e.told) first.exchanges second.exchanges);
      stage_is = let behind : StageTells t c second.to second.rest new (written_of first.exchanges ++ written_of second.exchanges) (written_of first.exchanges ++ w) fault stage
          = stage_behind t c second.to second.rest (written_of first.exchanges) (written_of second.exchanges) w fault new stage second.stage_is in
          subst (λ (x : List ℕ). StageTells t c second.to second.rest new (written_of (first.exchanges ++ second.exchanges)) (x ++ w) fault stage) (sym first.stage_is.1)
          (subst (λ (x : List ℕ). StageTells t c second.to second.rest new x (written_of first.exchanges ++ w) fault stage)
          (sym (flat_map-append (λ (e : Exchange). response_text e.answer e.ends) first.exchanges second.exchanges)) behind);
    }

-- the same, with what passed over the link
pub Spoken-then : (t : Service) (a b c : Traffic) (old mid new : SessionState) (told more : List Member) (stage : Stage)
    → Spoken t a b old mid told answered → Spoken t b c mid new more stage → Spoken t a c old new (told ++ more) stage
Spoken-then t a b c old mid new told more stage first second = record {
  read = first.read ++ second.read;
  written = first.written ++ second.written;
  fault = second.fault;
  moves = Moves-then (subst (λ (f : Fault). Moves a b first.read first.written f) first.talks.stage_is.0 first.moves) second.moves;
  talks = Talks-then t b c old mid new first.read second.read first.written second.written told more first.fault second.fault stage first.talks second.talks;
}

-- no request was answered
pub Talks-none : (t : Service) (after : Traffic) (old new : SessionState) (r w : List ℕ) (fault : Fault) (stage : Stage)
    → StageTells t after (progress old) (old.kept ++ r) new [] w fault stage → Talks t after old new r w [] fault stage
Talks-none t after old new r w fault stage is =
    record { exchanges = []; to = progress old; runs = refl; rest = old.kept ++ r; bytes = refl; told_is = refl; stage_is = is }

-- one request was answered
pub Talks-one : (t : Service) (after : Traffic) (old new : SessionState) (r w rest : List ℕ) (e : Exchange) (fault : Fault) (stage : Stage)
    → old.over ≡ false → old.count < t.limits.requests → IsExchange t old.count e → old.kept ++ r ≡ e.spelled ++ rest
    → StageTells t after record { count = old.count + 1; over = e.ends } rest new (response_text e.answer e.ends) w fault stage
    → Talks t after old new r w (told_by e.told) fault stage
Talks-one t after old new r w rest e fault stage goes_on below is bytes tells =
    record {
      exchanges = e ∷ [];
      to = record { count = old.count + 1; over = e.ends };
      runs = (goes_on, below, is, refl);
      rest = rest;
      bytes = bytes ∙ ap (λ x. x ++ rest) (sym (append-nil e.spelled));
      told_is = sym (append-nil (told_by e.told));
      stage_is = subst (λ (x : List ℕ). StageTells t after record { count = old.count + 1; over = e.ends } rest new x w fault stage) (sym (append-nil (response_text e.answer e.ends))) tells;
    }

-- what was read before it is as if it had been kept
pub Talks-read : (t : Service) (after : Traffic) (old new : SessionState) (r w x : List ℕ) (told : List Member) (fault : Fault) (stage : Stage)
    → old.kept ++ r ≡ x → Talks t after (record old { kept = x }) new [] w told fault stage → Talks t after old new r w told fault stage
Talks-read t after old new r w x told fault stage is talks =
    record {
      exchanges = talks.exchanges;
      to = talks.to;
      runs = talks.runs;
      rest = talks.rest;
      bytes = is ∙ sym (append-nil x) ∙ talks.bytes;
      told_is = talks.told_is;
      stage_is = talks.stage_is;
    }

-- a whole connection
pub Talks-whole : (t : Service) (after : Traffic) (n : ℕ) (new : SessionState) (r w : List ℕ) (told : List Member) (fault : Fault) (end : SessionEnd)
    → Talks t after record { kept = []; caller = n; count = 0; over = false; pending = None; ended = false } new r w told fault (ended end)
    → Transcript t after r w told fault end
Talks-whole t after n new r w told fault end talks =
    record {
      exchanges = talks.exchanges;
      to = talks.to;
      runs = talks.runs;
      rest = talks.rest;
      bytes = talks.bytes;
      told_is = talks.told_is;
      end_is = talks.stage_is.0;
    }

-- the same under another name of the caller's number
pub Spoken-caller : (limits : Limits) (n m : ℕ) (keys : List Pair) (scheme : Scheme) (clock : Option ℕ) (a b : Traffic) (old new : SessionState) (told : List Member) (stage : Stage)
    → n ≡ m → Spoken record { limits = limits; caller = n; keys = keys; scheme = scheme; clock = clock } a b old new told stage
    → Spoken record { limits = limits; caller = m; keys = keys; scheme = scheme; clock = clock } a b old new told stage
Spoken-caller limits n m keys scheme clock a b old new told stage is spoken =
    subst (λ (k : ℕ). Spoken record { limits = limits; caller = k; keys = keys; scheme = scheme; clock = clock } a b old new told stage) is spoken

-- the reply to the call that waits, and the bytes of its answer
module _ (t : Service) (b c : Traffic) (old mid new : SessionState) (r v w whole : List ℕ) (told : List Member) (none fault : Fault) (call : Call) (reply : Reply)
    (talks : Talks t b old mid r v told none (waiting call)) (is_owed : IsOwed mid.pending reply whole) where
  abbrev owed : IsOwed (Some (record { ends = ends_with t.limits talks.to.count talks.stage_is.2.request; outcome = talks.stage_is.2.outcome })) reply whole
  owed = subst (λ p. IsOwed p reply whole) talks.stage_is.2.pending is_owed

  abbrev before_it : SessionState
  before_it = record { kept = talks.stage_is.2.spelled ++ mid.kept; caller = mid.caller; count = talks.to.count; over = talks.to.over; pending = None; ended = false }

  abbrev member : Member
  member = (call, reply)

  abbrev exchange : Exchange
  exchange =
      let waits = talks.stage_is.2 in
      record {
        spelled = waits.spelled;
        request = waits.request;
        told = Some member;
        answer = owed.0;
        ends = ends_with t.limits talks.to.count waits.request;
      }

  until_it : Talks t b old before_it r v told none answered
  until_it = record {
    exchanges = talks.exchanges;
    to = talks.to;
    runs = talks.runs;
    rest = talks.rest;
    bytes = talks.bytes;
    told_is = talks.told_is;
    stage_is = (talks.stage_is.0, talks.stage_is.1, record { kept = talks.stage_is.2.bytes; count = refl; over = refl; pending = refl; lives = refl });
  }

  is_exchange : IsExchange t talks.to.count exchange
  is_exchange =
      let waits = talks.stage_is.2 in
      record { spelling = waits.spelling; answer = (waits.signed, waits.outcome, waits.asked, waits.call_is, owed.1); ends = refl }

  Talks-tell : (stage : Stage)
      → StageTells t c record { count = talks.to.count + 1; over = exchange.ends } mid.kept new (response_text exchange.answer exchange.ends) w fault stage
      → Talks t c old new r (v ++ w) (told ++ member ∷ []) fault stage
  Talks-tell stage tells =
      let one : Talks t c before_it new [] w (member ∷ []) fault stage
      = Talks-one t c before_it new [] w mid.kept exchange fault stage talks.stage_is.2.goes_on talks.stage_is.2.below is_exchange (append-nil (talks.stage_is.2.spelled ++ mid.kept)) tells in
      subst (λ (x : List ℕ). Talks t c old new x (v ++ w) (told ++ member ∷ []) fault stage) (append-nil r)
      (Talks-then t b c old before_it new r [] v w told (member ∷ []) none fault stage until_it one)

  -- it was written, and the session goes on
  pub told_ok : fault ≡ no_fault → w ≡ whole → new ≡ record mid { pending = None; over = ends_then mid.pending }
      → Talks t c old new r (v ++ w) (told ++ member ∷ []) fault answered
  told_ok fine all is =
      let waits = talks.stage_is.2 in
      Talks-tell answered (
        fine,
        all ∙ owed.2,
        record {
          kept = sym (ap (λ (s : SessionState). s.kept) is);
          count = ap (λ (s : SessionState). s.count) is ∙ waits.count;
          over = ap (λ (s : SessionState). s.over) is ∙ ap ends_then waits.pending;
          pending = ap (λ (s : SessionState). s.pending) is;
          lives = ap (λ (s : SessionState). s.ended) is ∙ waits.lives;
        },
      )

  -- some of it was not written
  pub told_cut : fault ≡ write_fault → IsProperPrefix w whole → new.ended ≡ true
      → Talks t c old new r (v ++ w) (told ++ member ∷ []) fault (ended WriteFault)
  told_cut bad cut is =
      Talks-tell (ended WriteFault) ((bad, inl (subst (λ (x : List ℕ). IsProperPrefix w x) owed.2 cut)), is)
