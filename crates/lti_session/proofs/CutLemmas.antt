-- A transcript is determined by its whole input and the replies.
use Rattle.std.proofs.Common.{◌≡◌, ◌<◌, ◌≤◌, ◌+◌, ◌⊎◌, ℕ, List, [], ◌∷◌, ◌++◌, length, Bool, true, false, inl, inr, refl, sym, ap, ◌∙◌, subst, append_assoc, append-nil, arith, Option, Some, None}
use Rattle.std.specs.Prelude.{⊤}
use Rattle.std.proofs.lemmas.Grind.{common_steps}
use Rattle.lti_outside.specs.Traffic.{Traffic, Fault, IsAtEnd, IsLeft}
use Rattle.lti_outside.specs.declared.limits.Limits.{Limits}
use Rattle.lti_outside.specs.declared.pairs.Pair.{Pair}
use Rattle.lti_outside.proofs.TrafficLemmas.{IsLeft-at_end}
use Rattle.oauth_text.specs.declared.url.Scheme.{Scheme}
use Rattle.http_wire.specs.Message.{RequestParts, ResponseParts}
use Rattle.http_wire.specs.Shape.{HasNoHead}
use Rattle.http_wire.specs.Spelling.{Spelling, WireFaultOf}
use Rattle.http_wire.specs.Response.{response_text}
use Rattle.http_wire.specs.declared.fault.WireFault.{WireFault}
use Rattle.http_wire.specs.declared.fault.WireFault.TheVariants as wire
use Rattle.http_wire.proofs.UniqueLemmas.{one_spelling, none_without_head}
use Rattle.http_wire.proofs.FirstLemmas.{faults_are_first}
use Rattle.oauth_request.specs.Checked.{Terms}
use Rattle.oauth_request.specs.declared.checking.Signed.{Signed}
use Rattle.oauth_request.proofs.OneAnswerLemmas as auth
use Rattle.lti_machine.specs.declared.reply.Reply.{Reply}
use Rattle.lti_provider.specs.Answers.{answer_to, auth_answer, launch_answer, envelope_answer, wire_answer, IsRendered}
use Rattle.lti_provider.specs.Before.{AsksNothing, Asks, IsRefused, IsAsked}
use Rattle.lti_provider.specs.declared.routes.Route.{Route}
use Rattle.lti_provider.specs.declared.routes.Route.TheVariants.{Launches, Outcomes}
use Rattle.pox_outcomes.specs.Request.{IsEnvelope, EnvelopeOf}
use Rattle.pox_outcomes.specs.BadAt.{IsBadAt}
use Rattle.pox_outcomes.specs.declared.outcome.Outcome.{Outcome}
use Rattle.pox_outcomes.proofs.DocumentLemmas.{envelope_once}
use Rattle.pox_outcomes.proofs.EndLemmas.{document_once}
use Rattle.lti_machine.specs.declared.call.Action.{Action}
use Rattle.lti_machine.specs.History.{Member}
use Rattle.lti_session.specs.Exchange.{Service, Exchange, Progress, IsAnswerTo, Runs, told_by, read_of, written_of, told_of, ends_with}
use Rattle.lti_session.specs.Talk.{EndTells, last_answer}
use Rattle.lti_session.specs.Laws.{IsUndisturbed, replies_of, CutsDoNotMatter}
use Rattle.lti_session.specs.declared.session_end.SessionEnd.{SessionEnd}
use Rattle.lti_session.specs.declared.session_end.SessionEnd.TheVariants.{Ended, LimitReached, CutShort, ReadFault, WriteFault, Refused, NoMemory}
use Rattle.lti_session.proofs.EndLemmas.{fault_after}
use Rattle.lti_session.proofs.RenderLemmas.{rendered_once}

-- the fault has an answer
abbrev IsAnswered : WireFault → Type 0
IsAnswered fault = (answer : ResponseParts) × (wire_answer fault ≡ Some answer)

-- how a connection ends, by its whole input
abbrev Whole : Limits → Progress → List ℕ → SessionEnd → Type 0
Whole limits to input Ended = ((to.over ≡ true) × (to.count < limits.requests)) ⊎ ((to.over ≡ false) × (input ≡ []))
Whole limits to input LimitReached = limits.requests ≤ to.count
Whole limits to input CutShort = (to.over ≡ false) × WireFaultOf limits input ⊤ wire.CutShort
Whole limits to input (Refused fault) = (to.over ≡ false) × IsAnswered fault × WireFaultOf limits input ⊤ fault
Whole limits to input ReadFault = ⊥
Whole limits to input WriteFault = ⊥
Whole limits to input NoMemory = ⊥

abbrev last_text : Option ResponseParts → List ℕ
last_text None = []
last_text (Some answer) = last_answer answer

-- what is written behind the answers
abbrev last_of : SessionEnd → List ℕ
last_of (Refused fault) = last_text (wire_answer fault)
last_of Ended = []
last_of LimitReached = []
last_of CutShort = []
last_of ReadFault = []
last_of WriteFault = []
last_of NoMemory = []

-- a fault of what was read is one of the whole input
fault_stays : (limits : Limits) (after : Traffic) (rest left : List ℕ) (fault : WireFault) → IsLeft after left
    → WireFaultOf limits rest (IsAtEnd after) fault → WireFaultOf limits (rest ++ left) ⊤ fault
fault_stays limits after rest left fault is found =
    faults_are_first.0 limits rest left fault (fault_after limits rest (IsAtEnd after) (left ≡ []) fault (λ end. IsLeft-at_end after left end is) found)

whole_of : (limits : Limits) (after : Traffic) (to : Progress) (rest left answers written : List ℕ) (fault : Fault) (end : SessionEnd) → IsLeft after left → IsUndisturbed end
    → EndTells limits after to rest answers written fault end → Whole limits to (rest ++ left) end × (written ≡ answers ++ last_of end)
whole_of limits after to rest left answers written fault Ended is calm tells = (
  elim tells.2 as (λ _. Whole limits to (rest ++ left) Ended) [
    | inl over ↦ inl over
    | inr at ↦ inr (at.0, ap (λ x. x ++ left) at.1 ∙ IsLeft-at_end after left at.2 is)
  ],
  tells.1 ∙ sym (append-nil answers),
)
whole_of limits after to rest left answers written fault LimitReached is calm tells = (tells.2, tells.1 ∙ sym (append-nil answers))
whole_of limits after to rest left answers written fault CutShort is calm tells =
    ((tells.2, fault_stays limits after rest left wire.CutShort is tells.3), tells.1 ∙ sym (append-nil answers))
whole_of limits after to rest left answers written fault (Refused refusal) is calm tells =
    ((tells.1, (tells.3, tells.4), fault_stays limits after rest left refusal is tells.2), tells.5 ∙ ap (λ (o : Option ResponseParts). answers ++ last_text o) (sym tells.4))
whole_of limits after to rest left answers written fault ReadFault is calm tells = absurd calm
whole_of limits after to rest left answers written fault WriteFault is calm tells = absurd calm
whole_of limits after to rest left answers written fault NoMemory is calm tells = absurd calm

both : (b : Bool) → b ≡ true → b ≡ false → ⊥
both b is not = let e = sym is ∙ not in cc

empty_no_head : HasNoHead []
empty_no_head front rest is = let e = ap length is in grind (arith, common_steps, e)

-- nothing has no fault
no_fault_of_none : (limits : Limits) (input : List ℕ) → input ≡ [] → 1 ≤ limits.head → (fault : WireFault) → WireFaultOf limits input ⊤ fault → ⊥
no_fault_of_none limits input none head fault is =
    elim is [
      | inl x ↦ omega (arith, ap length none, x.1.0, head)
      | inr x ↦ elim x [
        | inl y ↦ omega (arith, ap length none, y.1.0)
        | inr y ↦ empty_no_head y.2.is_head.front y.1 (sym none ∙ y.2.is ∙ ap (λ h. h ++ y.1) y.2.is_head.is)
      ]
    ]

-- the input that ends inside a message has no answer
not_cut : (fault : WireFault) → IsAnswered fault → fault ≡ wire.CutShort → ⊥
not_cut fault answered is = let e = sym (ap wire_answer is) ∙ answered.1 in cc

whole_unique : (limits : Limits) (to : Progress) (input : List ℕ) → (to.over ≡ false → to.count < limits.requests) → 1 ≤ limits.head → (e f : SessionEnd)
    → Whole limits to input e → Whole limits to input f → e ≡ f
whole_unique limits to input below head Ended Ended x y = refl
whole_unique limits to input below head LimitReached LimitReached x y = refl
whole_unique limits to input below head CutShort CutShort x y = refl
whole_unique limits to input below head (Refused f) (Refused h) x y = ap Refused (faults_are_first.1 limits input f h x.2 y.2)
whole_unique limits to input below head CutShort (Refused h) x y = absurd (not_cut h y.1 (faults_are_first.1 limits input h wire.CutShort y.2 x.1))
whole_unique limits to input below head (Refused f) CutShort x y = absurd (not_cut f x.1 (faults_are_first.1 limits input f wire.CutShort x.2 y.1))
whole_unique limits to input below head LimitReached CutShort x y = absurd (let lt = below y.0 in omega (arith, lt, x))
whole_unique limits to input below head LimitReached (Refused h) x y = absurd (let lt = below y.0 in omega (arith, lt, x))
whole_unique limits to input below head CutShort LimitReached x y = absurd (let lt = below x.0 in omega (arith, lt, y))
whole_unique limits to input below head (Refused f) LimitReached x y = absurd (let lt = below x.0 in omega (arith, lt, y))
whole_unique limits to input below head Ended LimitReached x y =
    absurd (elim x [ inl o ↦ omega (arith, o.1, y) | inr n ↦ let lt = below n.0 in omega (arith, lt, y) ])
whole_unique limits to input below head LimitReached Ended x y =
    absurd (elim y [ inl o ↦ omega (arith, o.1, x) | inr n ↦ let lt = below n.0 in omega (arith, lt, x) ])
whole_unique limits to input below head Ended CutShort x y =
    absurd (elim x [ inl o ↦ both to.over o.0 y.0 | inr n ↦ no_fault_of_none limits input n.1 head wire.CutShort y.1 ])
whole_unique limits to input below head Ended (Refused h) x y =
    absurd (elim x [ inl o ↦ both to.over o.0 y.0 | inr n ↦ no_fault_of_none limits input n.1 head h y.2 ])
whole_unique limits to input below head CutShort Ended x y =
    absurd (elim y [ inl o ↦ both to.over o.0 x.0 | inr n ↦ no_fault_of_none limits input n.1 head wire.CutShort x.1 ])
whole_unique limits to input below head (Refused f) Ended x y =
    absurd (elim y [ inl o ↦ both to.over o.0 x.0 | inr n ↦ no_fault_of_none limits input n.1 head f x.2 ])
whole_unique limits to input below head ReadFault f x y = absurd x
whole_unique limits to input below head WriteFault f x y = absurd x
whole_unique limits to input below head NoMemory f x y = absurd x
whole_unique limits to input below head Ended ReadFault x y = absurd y
whole_unique limits to input below head Ended WriteFault x y = absurd y
whole_unique limits to input below head Ended NoMemory x y = absurd y
whole_unique limits to input below head LimitReached ReadFault x y = absurd y
whole_unique limits to input below head LimitReached WriteFault x y = absurd y
whole_unique limits to input below head LimitReached NoMemory x y = absurd y
whole_unique limits to input below head CutShort ReadFault x y = absurd y
whole_unique limits to input below head CutShort WriteFault x y = absurd y
whole_unique limits to input below head CutShort NoMemory x y = absurd y
whole_unique limits to input below head (Refused e) ReadFault x y = absurd y
whole_unique limits to input below head (Refused e) WriteFault x y = absurd y
whole_unique limits to input below head (Refused e) NoMemory x y = absurd y

-- no request stands where a connection has ended
nothing_follows : (limits : Limits) (to : Progress) (input s y : List ℕ) (q : RequestParts) → to.over ≡ false → to.count < limits.requests
    → Spelling limits s q → input ≡ s ++ y → (end : SessionEnd) → Whole limits to input end → ⊥
nothing_follows limits to input s y q goes_on below spells is Ended whole =
    elim whole [
      | inl over ↦ both to.over over.0 goes_on
      | inr none ↦ none_without_head limits [] empty_no_head s y q spells (sym none.1 ∙ is)
    ]
nothing_follows limits to input s y q goes_on below spells is LimitReached whole = omega (arith, below, whole)
nothing_follows limits to input s y q goes_on below spells is CutShort whole = faults_are_first.2 limits input wire.CutShort whole.1 s y q spells is
nothing_follows limits to input s y q goes_on below spells is (Refused fault) whole = faults_are_first.2 limits input fault whole.2 s y q spells is
nothing_follows limits to input s y q goes_on below spells is ReadFault whole = whole
nothing_follows limits to input s y q goes_on below spells is WriteFault whole = whole
nothing_follows limits to input s y q goes_on below spells is NoMemory whole = whole

abbrev value_in : {A : Type 0} → Option A → A → A
value_in None other = other
value_in (Some x) other = x

same_some : {A : Type 0} (o : Option A) (x y : A) → o ≡ Some x → o ≡ Some y → x ≡ y
same_some o x y one other = ap (λ v. value_in v x) (sym one ∙ other)

not_both : {A : Type 0} (o : Option A) (x : A) → o ≡ Some x → o ≡ None → ⊥
not_both o x one other = let e = sym one ∙ other in cc

-- bytes stop being an envelope at one place
one_place : (bytes : List ℕ) (a b : ℕ) → IsBadAt EnvelopeOf bytes a → IsBadAt EnvelopeOf bytes b → a ≡ b
one_place bytes a b one other = omega (arith, one.longest b other.within other.begins, other.longest a one.within one.begins)

-- a route's message that asks nothing has one answer
nothing_unique : (route : Route) (q : RequestParts) (a b : ResponseParts) → AsksNothing route q a → AsksNothing route q b → a ≡ b
nothing_unique Launches q a b x y = x.2 ∙ ap launch_answer (same_some _ x.0 y.0 x.1 y.1) ∙ sym y.2
nothing_unique Outcomes q a b x y = x.2 ∙ ap envelope_answer (one_place q.body x.0 y.0 x.1 y.1) ∙ sym y.2

-- a refusal has one answer
refused_unique : (terms : Terms) (q : RequestParts) (a b : ResponseParts) → IsRefused terms q a → IsRefused terms q b → a ≡ b
refused_unique terms q a b (inl x) (inl y) = x.answer_is ∙ ap (λ r. answer_to q r) (same_some _ x.refusal y.refusal x.refused y.refused) ∙ sym y.answer_is
refused_unique terms q a b (inl x) (inr (inl y)) = absurd (not_both _ x.refusal x.refused y.routed)
refused_unique terms q a b (inl x) (inr (inr y)) = absurd (not_both _ x.refusal x.refused y.routed)
refused_unique terms q a b (inr (inl x)) (inl y) = absurd (not_both _ y.refusal y.refused x.routed)
refused_unique terms q a b (inr (inr x)) (inl y) = absurd (not_both _ y.refusal y.refused x.routed)
refused_unique terms q a b (inr (inl x)) (inr (inl y)) =
    x.answer_is ∙ ap auth_answer ((auth.one_answer terms q).one x.fault y.fault x.is_fault y.is_fault x.known y.known) ∙ sym y.answer_is
refused_unique terms q a b (inr (inl x)) (inr (inr y)) = absurd (x.known ((auth.one_answer terms q).none x.fault y.well_signed x.is_fault))
refused_unique terms q a b (inr (inr x)) (inr (inl y)) = absurd (y.known ((auth.one_answer terms q).none y.fault x.well_signed y.is_fault))
refused_unique terms q a b (inr (inr x)) (inr (inr y)) =
    nothing_unique y.route q a b (subst (λ (r : Route). AsksNothing r q a) (same_some _ x.route y.route x.route_is y.route_is) x.nothing) y.nothing

-- a message that asks nothing asks nothing
not_asked : (route : Route) (q : RequestParts) (a : ResponseParts) (outcome : Option Outcome) (action : Action) → AsksNothing route q a → Asks route q outcome action → ⊥
not_asked Launches q a None action x call = not_both _ x.0 x.1 call.faultless
not_asked Launches q a (Some o) action x call = call
not_asked Outcomes q a None action x call = call
not_asked Outcomes q a (Some o) action x call = x.1.none o call.spelled

-- no request is refused and asked
refused_not_asked : (terms : Terms) (q : RequestParts) (a : ResponseParts) (signed : Signed) (outcome : Option Outcome) (action : Action) → IsRefused terms q a → IsAsked terms q signed outcome action → ⊥
refused_not_asked terms q a signed outcome action (inl x) asked = not_both _ x.refusal x.refused asked.routed
refused_not_asked terms q a signed outcome action (inr (inl x)) asked = x.known ((auth.one_answer terms q).none x.fault asked.well_signed x.is_fault)
refused_not_asked terms q a signed outcome action (inr (inr x)) asked =
    not_asked asked.route q a outcome action (subst (λ (r : Route). AsksNothing r q a) (same_some _ x.route asked.route x.route_is asked.route_is) x.nothing) asked.call

-- a request asks for one outcome, or for none
outcome_once : (route : Route) (q : RequestParts) (o o' : Option Outcome) (a a' : Action) → Asks route q o a → Asks route q o' a' → o ≡ o'
outcome_once Launches q None None a a' one other = refl
outcome_once Launches q (Some o) o' a a' one other = absurd one
outcome_once Launches q None (Some o') a a' one other = absurd other
outcome_once Outcomes q (Some o) (Some o') a a' one other = ap Some (document_once IsEnvelope envelope_once q.body o o' one.spelled other.spelled)
outcome_once Outcomes q None o' a a' one other = absurd one
outcome_once Outcomes q (Some o) None a a' one other = absurd other

-- whichever route it is read by
same_outcome : (terms : Terms) (q : RequestParts) (s s' : Signed) (o o' : Option Outcome) (a a' : Action) → IsAsked terms q s o a → IsAsked terms q s' o' a' → o ≡ o'
same_outcome terms q s s' o o' a a' one other =
    outcome_once other.route q o o' a a' (subst (λ (r : Route). Asks r q o a) (same_some _ one.route other.route one.route_is other.route_is) one.call) other.call

abbrev first_reply : List Reply → Reply → Reply
first_reply [] other = other
first_reply (r ∷ rs) other = r

abbrev later_replies : List Reply → List Reply
later_replies [] = []
later_replies (r ∷ rs) = rs

abbrev service : Limits → List Pair → Scheme → ℕ → Option ℕ → Service
service limits keys scheme caller clock = record { limits = limits; caller = caller; keys = keys; scheme = scheme; clock = clock }

module _ (limits : Limits) (keys : List Pair) (scheme : Scheme) (n m : ℕ) (c d : Option ℕ) where
  -- a request has one answer, by the reply to it
  one_answer : (q : RequestParts) (r r' : ResponseParts) (ms ms' : List Member) (o o' : Option Member)
      → IsAnswerTo (service limits keys scheme n c) q o r → IsAnswerTo (service limits keys scheme m d) q o' r'
      → replies_of (told_by o ++ ms) ≡ replies_of (told_by o' ++ ms') → (r ≡ r') × (replies_of ms ≡ replies_of ms')
  one_answer q r r' ms ms' None None one other same = (refused_unique _ q r r' one other, same)
  one_answer q r r' ms ms' (Some a) (Some b) one other same =
      let outcomes : one.1 ≡ other.1 = same_outcome _ q one.0 other.0 one.1 other.1 _ _ one.2 other.2 in
      let replies : a.1 ≡ b.1 = ap (λ rs. first_reply rs a.1) same in (
        rendered_once other.1 b.1 r r'
            (subst (λ (o : Option Outcome). IsRendered o b.1 r) outcomes (subst (λ (x : Reply). IsRendered one.1 x r) replies one.4)) other.4,
        ap later_replies same,
      )
  one_answer q r r' ms ms' None (Some b) one other same = absurd (refused_not_asked _ q r other.0 other.1 _ one other.2)
  one_answer q r r' ms ms' (Some a) None one other same = absurd (refused_not_asked _ q r' one.0 one.1 _ other one.2)

  module _ (s s' : Progress) (x x' : List ℕ) (end end' : SessionEnd) (whole : Whole limits s x end) (whole' : Whole limits s' x' end') where
    same_run : (es fs : List Exchange) (p : Progress) → Runs (service limits keys scheme n c) p es s → Runs (service limits keys scheme m d) p fs s'
        → read_of es ++ x ≡ read_of fs ++ x' → replies_of (told_of es) ≡ replies_of (told_of fs)
        → (written_of es ≡ written_of fs) × (s ≡ s') × (x ≡ x')
    same_run [] [] p one other is same = (refl, one ∙ sym other, is)
    same_run [] (f ∷ fs) p one other is same =
        absurd (nothing_follows limits s x f.spelled (read_of fs ++ x') f.request
        (ap (λ (q : Progress). q.over) one ∙ other.0)
        (subst (λ (q : Progress). q.count < limits.requests) (sym one) other.1)
        other.2.spelling
        (is ∙ append_assoc f.spelled (read_of fs) x') end whole)
    same_run (e ∷ es) [] p one other is same =
        absurd (nothing_follows limits s' x' e.spelled (read_of es ++ x) e.request
        (ap (λ (q : Progress). q.over) other ∙ one.0)
        (subst (λ (q : Progress). q.count < limits.requests) (sym other) one.1)
        one.2.spelling
        (sym is ∙ append_assoc e.spelled (read_of es) x) end' whole')
    same_run (e ∷ es) (f ∷ fs) p one other is same =
        let begin = one_spelling limits e.spelled f.spelled (read_of es ++ x) (read_of fs ++ x') e.request f.request one.2.spelling other.2.spelling
        (sym (append_assoc e.spelled (read_of es) x) ∙ is ∙ append_assoc f.spelled (read_of fs) x') in
        let answer = one_answer e.request e.answer f.answer (told_of es) (told_of fs) e.told f.told one.2.answer
        (subst (λ (q : RequestParts). IsAnswerTo (service limits keys scheme m d) q f.told f.answer) (sym begin.1) other.2.answer) same in
        let ends : e.ends ≡ f.ends = one.2.ends ∙ ap (λ (q : RequestParts). ends_with limits p.count q) begin.1 ∙ sym other.2.ends in
        let more = same_run es fs record { count = p.count + 1; over = e.ends } one.3
        (subst (λ (b : Bool). Runs (service limits keys scheme m d) record { count = p.count + 1; over = b } fs s') (sym ends) other.3) begin.2 answer.1 in
        ((λ i. response_text (answer.0 i) (ends i) ++ more.0 i), more.1, more.2)

-- below the limit unless it is over
stays_below : (t : Service) (es : List Exchange) (p q : Progress) → (p.over ≡ false → p.count < t.limits.requests) → Runs t p es q → q.over ≡ false → q.count < t.limits.requests
stays_below t [] p q below runs goes_on = subst (λ (x : Progress). x.count < t.limits.requests) (sym runs) (below (sym (ap (λ (x : Progress). x.over) runs) ∙ goes_on))
stays_below t (e ∷ es) p q below runs goes_on =
    stays_below t es record { count = p.count + 1; over = e.ends } q (λ no. grind (arith, common_steps, runs.2.ends, no)) runs.3 goes_on

pub cuts : CutsDoNotMatter
cuts limits keys scheme n m c d after after' left left' r w r' w' told told' fault fault' end end' sound is is' same replies calm calm' one other =
    let x = whole_of limits after one.to one.rest left (written_of one.exchanges) w fault end is calm one.end_is in
    let y = whole_of limits after' other.to other.rest left' (written_of other.exchanges) w' fault' end' is' calm' other.end_is in
    let run = same_run limits keys scheme n m c d one.to other.to (one.rest ++ left) (other.rest ++ left') end end' x.0 y.0 one.exchanges other.exchanges
    record { count = 0; over = false } one.runs other.runs
    (sym (append_assoc (read_of one.exchanges) one.rest left) ∙ ap (λ z. z ++ left) (sym one.bytes) ∙ same ∙ ap (λ z. z ++ left') other.bytes ∙ append_assoc (read_of other.exchanges) other.rest left')
    (ap replies_of (sym one.told_is) ∙ replies ∙ ap replies_of other.told_is) in
    let below = stays_below (service limits keys scheme n c) one.exchanges record { count = 0; over = false } one.to (λ _. sound.requests.0) one.runs in
    let ends : end ≡ end' = whole_unique limits one.to (one.rest ++ left) below (omega (arith, sound.head.0)) end end' x.0
    (subst (λ (z : List ℕ). Whole limits one.to z end') (sym run.2) (subst (λ (q : Progress). Whole limits q (other.rest ++ left') end') (sym run.1) y.0)) in
    (x.1 ∙ (λ i. run.0 i ++ last_of (ends i)) ∙ sym y.1, ends)
