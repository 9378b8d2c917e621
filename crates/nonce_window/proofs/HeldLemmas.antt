-- Two lists with the same live stamps at a moment have them ever after, and the same verdicts.
use Rattle.std.proofs.Common.{◌≡◌, ◌≤◌, ◌<◌, ⊎_elim, ℕ, Bool, true, false, true≢false, arith, subst, ◌^◌, ◌-◌, not, nat_le, List, [], ◌∷◌, ◌++◌, length, filter, refl, sym, ap, ◌∙◌, if◌then◌else◌}
use Rattle.std.specs.List.{list_any}
use Rattle.std.proofs.lemmas.Bool.{cond-true, cond_both, cases_Bool}
use Rattle.std.proofs.lemmas.Bool.Decides.{nat_tests}
use Rattle.lti_machine.specs.declared.entry.Entry.{Entry}
use Rattle.lti_machine.specs.declared.verdict.Verdict.{Verdict}
use Rattle.lti_machine.specs.declared.verdict.Verdict.TheVariants.{New, Outside, Used, WindowFull}
use Rattle.lti_machine.specs.Kept.{NoRepeats}
use Rattle.lti_machine.specs.Nonces.{Stamp, stamp_of, same_stamp, live, stands, is_inside, verdict}
use Rattle.nonce_window.specs.Window.{WindowValue}
use Rattle.nonce_window.specs.Words.{Says, SameContents}
use Rattle.nonce_window.proofs.LaterLemmas.{still, live-later, length-live_later}
use Rattle.nonce_window.proofs.PushLemmas.{grown, live-push, stands-live, inside_is_still, length-live_push}

pub same_later : (known entries : List Entry) (key : List ℕ) (now later : ℕ) → now ≤ later → live known key now ≡ live entries key now → live known key later ≡ live entries key later
same_later known entries key now later h same =
    live-later known key now later h ∙ ap (filter (still later)) same ∙ sym (live-later entries key now later h)

pub same_pushed : (known entries : List Entry) (k e : Entry) (key : List ℕ) (now : ℕ) → live known key now ≡ live entries key now → k.key ≡ e.key → stamp_of k ≡ stamp_of e → live (known ++ k ∷ []) key now ≡ live (entries ++ e ∷ []) key now
same_pushed known entries k e key now same keys stamps =
    live-push known k key now
    ∙ (λ i. grown key now (keys i) (stamps i) (same i))
    ∙ sym (live-push entries e key now)

pub same_verdict : (known entries : List Entry) (key : List ℕ) (stamp : Stamp) (now limit : ℕ) → live known key now ≡ live entries key now → verdict known key stamp now limit ≡ verdict entries key stamp now limit
same_verdict known entries key stamp now limit same =
    ⊎_elim
    (λ inside.
    let still_here = inside_is_still stamp now inside in
    let stand = stands-live known key now stamp still_here ∙ ap (list_any (same_stamp stamp)) same ∙ sym (stands-live entries key now stamp still_here) in
    λ i. if not (is_inside stamp.timestamp now) then Outside else if stand i then Used else if nat_le limit (length (same i)) then WindowFull (length (same i)) else New)
    (λ outside.
    cond-true (not (is_inside stamp.timestamp now)) Outside (if stands known key stamp then Used else if nat_le limit (length (live known key now)) then WindowFull (length (live known key now)) else New) (ap not outside)
    ∙ sym (cond-true (not (is_inside stamp.timestamp now)) Outside (if stands entries key stamp then Used else if nat_le limit (length (live entries key now)) then WindowFull (length (live entries key now)) else New) (ap not outside)))
    (cases_Bool (is_inside stamp.timestamp now))

-- the verdict of what a window knows is the verdict of each list that it holds
pub says_known : (window : WindowValue) (key : List ℕ) (stamp : Stamp) (now : ℕ) → window.high ≤ now → Says window key stamp now (verdict window.known key stamp now window.limit)
says_known window key stamp now h = λ entries held. same_verdict window.known entries key stamp now window.limit (same_later window.known entries key window.high now h (held key))

-- ---- what a new nonce tells

abbrev is_new : Verdict → Bool
is_new New = true
is_new Outside = false
is_new Used = false
is_new (WindowFull live) = false

-- a new stamp is inside, doesn't stand, and its key has fewer than the limit
pub record IsNew (entries : List Entry) (key : List ℕ) (stamp : Stamp) (now limit : ℕ) : Type 0 where
  pub inside : is_inside stamp.timestamp now ≡ true
  pub fresh : stands entries key stamp ≡ false
  pub below : length (live entries key now) < limit

not_new : {A : Type 0} (v : Verdict) → v ≡ New → is_new v ≡ false → A
not_new v new not_so = absurd (true≢false (sym (ap is_new new) ∙ not_so))

not_not : (b : Bool) → not b ≡ false → b ≡ true
not_not true h = refl
not_not false h = sym h

pub new_parts : (entries : List Entry) (key : List ℕ) (stamp : Stamp) (now limit : ℕ) → verdict entries key stamp now limit ≡ New → IsNew entries key stamp now limit
new_parts entries key stamp now limit =
    let count = length (live entries key now) in
    let full = if nat_le limit count then WindowFull count else New in
    cond_both (not (is_inside stamp.timestamp now)) Outside (if stands entries key stamp then Used else full) (λ v. v ≡ New → IsNew entries key stamp now limit)
    (λ _ new. not_new Outside new refl)
    (λ within. cond_both (stands entries key stamp) Used full (λ v. v ≡ New → IsNew entries key stamp now limit)
    (λ _ new. not_new Used new refl)
    (λ free. cond_both (nat_le limit count) (WindowFull count) New (λ v. v ≡ New → IsNew entries key stamp now limit)
    (λ _ new. not_new (WindowFull count) new refl)
    (λ room _. record { inside = not_not (is_inside stamp.timestamp now) within; fresh = free; below = grind (arith, nat_tests) })))

-- where a window says that a stamp is new, what it knows says so
pub new_known : (window : WindowValue) (key : List ℕ) (stamp : Stamp) (now : ℕ) → Says window key stamp now New → IsNew window.known key stamp now window.limit
new_known window key stamp now says = new_parts window.known key stamp now window.limit (sym (says window.known (λ _. refl)))

-- ---- one more entry

-- an entry takes the place of another with its key and its stamp
pub held_pushed : (known entries : List Entry) (k e : Entry) (high now : ℕ) → high ≤ now → ((key : List ℕ) → live known key high ≡ live entries key high) → k.key ≡ e.key → stamp_of k ≡ stamp_of e → (key : List ℕ) → live (known ++ k ∷ []) key now ≡ live (entries ++ e ∷ []) key now
held_pushed known entries k e high now h held keys stamps key =
    same_pushed known entries k e key now (same_later known entries key high now h (held key)) keys stamps

-- the numbers still fit 32 bits, where the entry's own key had one less
pub few_pushed : (entries : List Entry) (e : Entry) (high now : ℕ) → high ≤ now → ((key : List ℕ) → length (live entries key high) < 2 ^ 32) → length (live entries e.key now) < 2 ^ 32 - 1 → (key : List ℕ) → length (live (entries ++ e ∷ []) key now) < 2 ^ 32
few_pushed entries e high now h few room key =
    let within = length-live_push entries e key now (2 ^ 32 - 1)
    (omega (arith, few key, length-live_later entries key high now h))
    (λ _ owner. subst (λ k. length (live entries k now) < 2 ^ 32 - 1) owner room) in
    omega (arith, within)

pub few_later : (entries : List Entry) (high now : ℕ) → high ≤ now → ((key : List ℕ) → length (live entries key high) < 2 ^ 32) → (key : List ℕ) → length (live entries key now) < 2 ^ 32
few_later entries high now h few key = omega (arith, few key, length-live_later entries key high now h)

-- ---- the empty list

pub none_repeat : NoRepeats []
unfolding NoRepeats
none_repeat = tt

pub none_live : (key : List ℕ) (now : ℕ) → length (live [] key now) < 2 ^ 32
unfolding live
none_live key now = omega arith

-- ---- the same contents

-- what a window says, one with the same contents says
pub says_after : (before after : WindowValue) (key : List ℕ) (stamp : Stamp) (now : ℕ) (answer : Verdict) → SameContents before after → Says before key stamp now answer → Says after key stamp now answer
says_after before after key stamp now answer same says = λ entries held.
    says entries ((same.lists entries).1 held) ∙ ap (verdict entries key stamp now) (sym same.limit)
