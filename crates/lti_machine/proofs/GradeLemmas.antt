-- A grade that was set is told.
use Rattle.std.proofs.Common.{◌≡◌, ℕ, Bool, true, false, true≢false, ◌&&◌, List, [], ◌∷◌, ◌++◌, Some, None, refl, sym, ap, ◌∙◌, bytes_eq}
use Rattle.std.specs.List.{list_any}
use Rattle.std.specs.Cmp.Lexicographic.{bytes_decides}
use Rattle.std.proofs.lemmas.Bool.{cond-true, cond-false, cond_both, or_parts}
use Rattle.std.proofs.lemmas.List.Sums.{fold-append}
use Rattle.lti_machine.specs.History.{Member, IsByRules, AcceptsByRules, is_change, changes, GradeIsTold}
use Rattle.lti_machine.specs.Rules.{after, entry_of, effect_of, now_of, verdict_of, result, result_of, standing_of, id_of, reply_by, is_acceptance, is_issue}
use Rattle.lti_machine.specs.Standings.{standing, after_entry, after_effect, when_set}
use Rattle.lti_machine.specs.declared.call.Action.{Action}
use Rattle.lti_machine.specs.declared.call.Action.TheVariants as action
use Rattle.lti_machine.specs.declared.entry.Effect.{Effect}
use Rattle.lti_machine.specs.declared.entry.Entry.{Entry}
use Rattle.lti_machine.specs.declared.reply.Reply.{Reply}
use Rattle.lti_machine.specs.declared.reply.Reply.TheVariants as reply
use Rattle.lti_machine.specs.declared.standing.Standing.{Standing}
use Rattle.lti_machine.specs.declared.standing.Standing.TheVariants.{Unknown, Empty, Scored}
use Rattle.lti_machine.specs.declared.verdict.Verdict.{Verdict}
use Rattle.lti_machine.specs.declared.verdict.Verdict.TheVariants as nonce

-- an acceptance by a verdict is what the call comes to
by_verdict : (v : Verdict) (now : ℕ) (given : Reply) → is_acceptance (reply_by v now given) ≡ true → reply_by v now given ≡ given
by_verdict nonce.New now given accepted = refl
by_verdict nonce.Outside now given accepted = absurd (true≢false (sym accepted))
by_verdict nonce.Used now given accepted = absurd (true≢false (sym accepted))
by_verdict (nonce.WindowFull live) now given accepted = absurd (true≢false (sym accepted))

-- an accepted call is told what it comes to
pub accepted_result : (window : ℕ) (entries : List Entry) (m : Member) → IsByRules window entries m → is_acceptance m.1 ≡ true → m.1 ≡ result entries m.0
accepted_result window entries (call, given) by_rules accepted =
    let same = by_rules accepted in
    same ∙ cond_both (is_issue call.action) (result entries call) (reply_by (verdict_of entries call window) (now_of entries call) (result entries call))
    (λ (r : Reply). is_acceptance r ≡ true → r ≡ result entries call)
    (λ _ _. refl)
    (λ _. by_verdict (verdict_of entries call window) (now_of entries call) (result entries call))
    (ap is_acceptance (sym same) ∙ accepted)

-- how an id stands after one more entry
pub standing_push : (entries : List Entry) (entry : Entry) (key id : List ℕ) → standing (entries ++ entry ∷ []) key id ≡ after_entry key id (standing entries key id) entry
standing_push entries entry key id = fold-append (after_entry key id) Unknown entries (entry ∷ [])

-- no other call changes a grade
kept_effect : (asked : Action) (stands : Standing) (id : List ℕ) (score : ℕ) → is_change id asked ≡ false → after_effect id (Scored score) (effect_of asked (result_of asked stands)) ≡ Scored score
kept_effect action.Note stands id score other = refl
kept_effect (action.Launch link user sourced_id service) stands id score other = refl
kept_effect (action.Read name) Unknown id score other = refl
kept_effect (action.Read name) Empty id score other = refl
kept_effect (action.Read name) (Scored old) id score other = refl
kept_effect (action.Replace name None) Unknown id score other = refl
kept_effect (action.Replace name None) Empty id score other = refl
kept_effect (action.Replace name None) (Scored old) id score other = refl
kept_effect (action.Replace name (Some new)) Unknown id score other = refl
kept_effect (action.Replace name (Some new)) Empty id score other = cond-false (bytes_eq name id) (Scored new) (Scored score) other
kept_effect (action.Replace name (Some new)) (Scored old) id score other = cond-false (bytes_eq name id) (Scored new) (Scored score) other
kept_effect (action.Delete name) Unknown id score other = refl
kept_effect (action.Delete name) Empty id score other = cond-false (bytes_eq name id) Empty (Scored score) other
kept_effect (action.Delete name) (Scored old) id score other = cond-false (bytes_eq name id) Empty (Scored score) other
kept_effect (action.Issue name) Unknown id score other = cond_both (bytes_eq name id) (Scored score) (Scored score) (λ s. s ≡ Scored score) (λ _. refl) (λ _. refl)
kept_effect (action.Issue name) Empty id score other = cond_both (bytes_eq name id) (Scored score) (Scored score) (λ s. s ≡ Scored score) (λ _. refl) (λ _. refl)
kept_effect (action.Issue name) (Scored old) id score other = cond_both (bytes_eq name id) (Scored score) (Scored score) (λ s. s ≡ Scored score) (λ _. refl) (λ _. refl)

third_false : (a b c : Bool) → (a && (b && c)) ≡ false → a ≡ true → b ≡ true → c ≡ false
third_false true true c none a_is b_is = none
third_false true false c none a_is b_is = absurd (true≢false (sym b_is))
third_false false b c none a_is b_is = absurd (true≢false (sym a_is))

abbrev is_graded : Reply → Bool
is_graded reply.Graded = true
is_graded _ = false

-- a call that doesn't change the grade of an id leaves it
kept_grade : (window : ℕ) (entries : List Entry) (m : Member) (key id : List ℕ) (score : ℕ) → IsByRules window entries m
    → changes key id m ≡ false → standing entries key id ≡ Scored score → standing (after entries m.0 m.1) key id ≡ Scored score
kept_grade window entries m key id score by_rules other is =
    let entry = entry_of m.0 m.1 (now_of entries m.0) in
    cond_both (is_acceptance m.1) (entries ++ entry ∷ []) entries (λ (es : List Entry). standing es key id ≡ Scored score)
    (λ accepted. standing_push entries entry key id
    ∙ ap (λ (s : Standing). after_entry key id s entry) is
    ∙ cond_both (bytes_eq m.0.key key) (after_effect id (Scored score) entry.effect) (Scored score) (λ (s : Standing). s ≡ Scored score)
    (λ same_key. ap (λ (r : Reply). after_effect id (Scored score) (effect_of m.0.action r)) (accepted_result window entries m by_rules accepted)
    ∙ kept_effect m.0.action (standing_of entries m.0.key (id_of m.0.action)) id score
    (third_false (is_acceptance m.1) (bytes_eq m.0.key key) (is_change id m.0.action) other accepted same_key))
    (λ _. refl))
    (λ _. is)

-- an id whose grade was set is issued
when_graded : (id : List ℕ) (score : ℕ) (stands : Standing) → reply.Graded ≡ result_of (action.Replace id (Some score)) stands → when_set stands (Scored score) ≡ Scored score
when_graded id score Unknown told = absurd (true≢false (ap is_graded told))
when_graded id score Empty told = refl
when_graded id score (Scored old) told = refl

-- a grade that is set stands
set_grade : (window : ℕ) (entries : List Entry) (m : Member) (id : List ℕ) (score : ℕ) → IsByRules window entries m
    → m.0.action ≡ action.Replace id (Some score) → m.1 ≡ reply.Graded → standing (after entries m.0 m.1) m.0.key id ≡ Scored score
set_grade window entries m id score by_rules asks told =
    let entry = entry_of m.0 m.1 (now_of entries m.0) in
    let key = m.0.key in
    let before = standing entries key id in
    let accepted : is_acceptance m.1 ≡ true = ap is_acceptance told in
    let effect : effect_of m.0.action m.1 ≡ effect_of (action.Replace id (Some score)) reply.Graded =
    ap (λ (a : Action). effect_of a m.1) asks ∙ ap (λ (r : Reply). effect_of (action.Replace id (Some score)) r) told in
    let comes : reply.Graded ≡ result_of (action.Replace id (Some score)) before =
    sym told ∙ accepted_result window entries m by_rules accepted ∙ ap (λ (a : Action). result_of a (standing_of entries key (id_of a))) asks in
    ap (λ (es : List Entry). standing es key id) (cond-true (is_acceptance m.1) (entries ++ entry ∷ []) entries accepted)
    ∙ standing_push entries entry key id
    ∙ cond-true (bytes_eq key key) (after_effect id before entry.effect) before ((bytes_decides key key).1 refl)
    ∙ ap (λ (e : Effect). after_effect id before e) effect
    ∙ cond-true (bytes_eq id id) (when_set before (Scored score)) before ((bytes_decides id id).1 refl)
    ∙ when_graded id score before comes

-- a grade that stands is told
read_grade : (window : ℕ) (entries : List Entry) (m : Member) (key id : List ℕ) (score : ℕ) → IsByRules window entries m
    → standing entries key id ≡ Scored score → m.0.key ≡ key → m.0.action ≡ action.Read id → is_acceptance m.1 ≡ true → m.1 ≡ reply.GradeRead (Some score)
read_grade window entries m key id score by_rules is same_key asks accepted =
    accepted_result window entries m by_rules accepted
    ∙ ap (λ (a : Action). result_of a (standing_of entries m.0.key (id_of a))) asks
    ∙ ap (λ (k : List ℕ). result_of (action.Read id) (standing entries k id)) same_key
    ∙ ap (λ (s : Standing). result_of (action.Read id) s) is

told_later : (window : ℕ) (from : List Entry) (between behind : List Member) (second : Member) (key id : List ℕ) (score : ℕ)
    → AcceptsByRules window from (between ++ second ∷ behind) → standing from key id ≡ Scored score
    → list_any (changes key id) between ≡ false
    → second.0.key ≡ key → second.0.action ≡ action.Read id → is_acceptance second.1 ≡ true
    → second.1 ≡ reply.GradeRead (Some score)
told_later window from [] behind second key id score goes is none same_key asks accepted = read_grade window from second key id score goes.0 is same_key asks accepted
told_later window from (m ∷ between) behind second key id score goes is none same_key asks accepted =
    let parts = or_parts (changes key id m) (list_any (changes key id) between) none in
    told_later window (after from m.0 m.1) between behind second key id score goes.1 (kept_grade window from m key id score goes.0 parts.0 is) parts.1 same_key asks accepted

pub told_as_set : GradeIsTold
told_as_set window from [] between behind first second id score goes asks told none same_key reads accepted =
    told_later window (after from first.0 first.1) between behind second first.0.key id score goes.1
    (set_grade window from first id score goes.0 asks told) none same_key reads accepted
told_as_set window from (m ∷ before) between behind first second id score goes asks told none same_key reads accepted =
    told_as_set window (after from m.0 m.1) before between behind first second id score goes.1 asks told none same_key reads accepted
