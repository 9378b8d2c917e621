-- The last entry behind the first issue of an id says how it stands.
use Rattle.std.proofs.Common.{◌≡◌, ℕ, Bool, true, false, true≢false, ◌&&◌, cond, List, [], ◌∷◌, ◌++◌, None, Some, refl, sym, ap, ◌∙◌, bytes_eq}
use Rattle.std.specs.List.{fold}
use Rattle.std.proofs.lemmas.List.Elements.{All-head, All-tail}
use Rattle.std.proofs.lemmas.List.Sums.{fold-append}
use Rattle.lti_machine.specs.StandingLaws.{is_issue_of, issues, grade_in, grade_told, AreNoIssues, AreSilent, UnknownUntilIssued, EmptyUntilGraded, LastDecides}
use Rattle.lti_machine.specs.Standings.{after_effect, after_entry, when_issued, when_set, standing}
use Rattle.lti_machine.specs.declared.entry.Entry.{Entry}
use Rattle.lti_machine.specs.declared.entry.Effect.{Effect}
use Rattle.lti_machine.specs.declared.entry.Effect.TheVariants as effect
use Rattle.lti_machine.specs.declared.standing.Standing.{Standing}
use Rattle.lti_machine.specs.declared.standing.Standing.TheVariants.{Unknown, Empty, Scored}
use Rattle.lti_machine.proofs.IssuedLemmas.{is_known, same_both}

twice_same : (a b : Bool) (s : Standing) → cond a (cond b s s) s ≡ s
twice_same a b s = ap (λ (x : Standing). cond a x s) (same_both b s) ∙ same_both a s

-- ---- one entry, by whether its key is the id's

unknown_issue : (a b : Bool) → (a && b) ≡ false → cond a (cond b Empty Unknown) Unknown ≡ Unknown
unknown_issue true true h = absurd (true≢false h)
unknown_issue true false h = refl
unknown_issue false b h = refl

unknown_step : (id : List ℕ) (a : Bool) (x : Effect) → (a && is_issue_of id x) ≡ false → cond a (after_effect id Unknown x) Unknown ≡ Unknown
unknown_step id a (effect.Issued other) h = unknown_issue a (bytes_eq other id) h
unknown_step id a (effect.Grade other score) h = twice_same a (bytes_eq other id) Unknown
unknown_step id a (effect.Cleared other) h = twice_same a (bytes_eq other id) Unknown
unknown_step id a effect.Nothing h = same_both a Unknown
unknown_step id a (effect.Launch link user sourced_id service) h = same_both a Unknown

no_issue : (a : Bool) → (a && false) ≡ true → ⊥
no_issue true h = true≢false (sym h)
no_issue false h = true≢false (sym h)

both_issue : (a b : Bool) → (a && b) ≡ true → cond a (cond b Empty Unknown) Unknown ≡ Empty
both_issue true true h = refl
both_issue true false h = absurd (true≢false (sym h))
both_issue false b h = absurd (true≢false (sym h))

issue_step : (id : List ℕ) (a : Bool) (x : Effect) → (a && is_issue_of id x) ≡ true → cond a (after_effect id Unknown x) Unknown ≡ Empty
issue_step id a (effect.Issued other) h = both_issue a (bytes_eq other id) h
issue_step id a (effect.Grade other score) h = absurd (no_issue a h)
issue_step id a (effect.Cleared other) h = absurd (no_issue a h)
issue_step id a effect.Nothing h = absurd (no_issue a h)
issue_step id a (effect.Launch link user sourced_id service) h = absurd (no_issue a h)

issued_known : (s : Standing) → is_known s ≡ true → when_issued s ≡ s
issued_known Unknown known = absurd (true≢false (sym known))
issued_known Empty known = refl
issued_known (Scored score) known = refl

set_known : (s wanted : Standing) → is_known s ≡ true → when_set s wanted ≡ wanted
set_known Unknown wanted known = absurd (true≢false (sym known))
set_known Empty wanted known = refl
set_known (Scored score) wanted known = refl

unset : (a b : Bool) (s wanted : Standing) → cond a (cond b (Some wanted) None) None ≡ None → cond a (cond b (when_set s wanted) s) s ≡ s
unset true true s wanted h = absurd (let e = h in cc)
unset true false s wanted h = refl
unset false b s wanted h = refl

silent_step : (id : List ℕ) (s : Standing) (a : Bool) (x : Effect) → is_known s ≡ true → cond a (grade_in id x) None ≡ None → cond a (after_effect id s x) s ≡ s
silent_step id s a (effect.Issued other) known h = ap (λ (w : Standing). cond a (cond (bytes_eq other id) w s) s) (issued_known s known) ∙ twice_same a (bytes_eq other id) s
silent_step id s a (effect.Grade other score) known h = unset a (bytes_eq other id) s (Scored score) h
silent_step id s a (effect.Cleared other) known h = unset a (bytes_eq other id) s Empty h
silent_step id s a effect.Nothing known h = same_both a s
silent_step id s a (effect.Launch link user sourced_id service) known h = same_both a s

set_so : (a b : Bool) (s wanted told : Standing) → is_known s ≡ true → cond a (cond b (Some wanted) None) None ≡ Some told → cond a (cond b (when_set s wanted) s) s ≡ told
set_so true true s wanted told known h = set_known s wanted known ∙ (let e = h in cc)
set_so true false s wanted told known h = absurd (let e = h in cc)
set_so false b s wanted told known h = absurd (let e = h in cc)

told_nothing : (a : Bool) (told : Standing) → cond a None None ≡ Some told → ⊥
told_nothing true told h = let e = h in cc
told_nothing false told h = let e = h in cc

told_step : (id : List ℕ) (s told : Standing) (a : Bool) (x : Effect) → is_known s ≡ true → cond a (grade_in id x) None ≡ Some told → cond a (after_effect id s x) s ≡ told
told_step id s told a (effect.Issued other) known h = absurd (told_nothing a told h)
told_step id s told a (effect.Grade other score) known h = set_so a (bytes_eq other id) s (Scored score) told known h
told_step id s told a (effect.Cleared other) known h = set_so a (bytes_eq other id) s Empty told known h
told_step id s told a effect.Nothing known h = absurd (told_nothing a told h)
told_step id s told a (effect.Launch link user sourced_id service) known h = absurd (told_nothing a told h)

known_both : (a b : Bool) (s w : Standing) → is_known s ≡ true → is_known w ≡ true → is_known (cond a (cond b w s) s) ≡ true
known_both true true s w known other = other
known_both true false s w known other = known
known_both false b s w known other = known

known_step : (id : List ℕ) (s : Standing) (a : Bool) (x : Effect) → is_known s ≡ true → is_known (cond a (after_effect id s x) s) ≡ true
known_step id s a (effect.Issued other) known = known_both a (bytes_eq other id) s (when_issued s) known (ap is_known (issued_known s known) ∙ known)
known_step id s a (effect.Grade other score) known = known_both a (bytes_eq other id) s (when_set s (Scored score)) known (ap is_known (set_known s (Scored score) known))
known_step id s a (effect.Cleared other) known = known_both a (bytes_eq other id) s (when_set s Empty) known (ap is_known (set_known s Empty known))
known_step id s a effect.Nothing known = ap is_known (same_both a s) ∙ known
known_step id s a (effect.Launch link user sourced_id service) known = ap is_known (same_both a s) ∙ known

-- ---- entry after entry

module _ (key id : List ℕ) where
  abbrev from : Standing → List Entry → Standing
  from s entries = fold (after_entry key id) s entries

  unknown_from : (entries : List Entry) → AreNoIssues key id entries → from Unknown entries ≡ Unknown
  unknown_from [] none = refl
  unknown_from (e ∷ es) none =
      ap (λ (s : Standing). from s es) (unknown_step id (bytes_eq e.key key) e.effect (All-head (λ e. issues key id e ≡ false) e es none))
      ∙ unknown_from es (All-tail (λ e. issues key id e ≡ false) e es none)

  silent_from : (s : Standing) (entries : List Entry) → is_known s ≡ true → AreSilent key id entries → from s entries ≡ s
  silent_from s [] known silent = refl
  silent_from s (e ∷ es) known silent =
      ap (λ (t : Standing). from t es) (silent_step id s (bytes_eq e.key key) e.effect known (All-head (λ e. grade_told key id e ≡ None) e es silent))
      ∙ silent_from s es known (All-tail (λ e. grade_told key id e ≡ None) e es silent)

  known_from : (s : Standing) (entries : List Entry) → is_known s ≡ true → is_known (from s entries) ≡ true
  known_from s [] known = known
  known_from s (e ∷ es) known = known_from (after_entry key id s e) es (known_step id s (bytes_eq e.key key) e.effect known)

  -- from the first issue on
  behind_issue : (front behind : List Entry) (issue : Entry) → AreNoIssues key id front → issues key id issue ≡ true → standing (front ++ issue ∷ behind) key id ≡ from Empty behind
  behind_issue front behind issue none is =
      fold-append (after_entry key id) Unknown front (issue ∷ behind)
      ∙ ap (λ (s : Standing). from s (issue ∷ behind)) (unknown_from front none)
      ∙ ap (λ (s : Standing). from s behind) (issue_step id (bytes_eq issue.key key) issue.effect is)

  told_known : (last : Entry) (told : Standing) → grade_told key id last ≡ Some told → is_known told ≡ true
  told_known last told says =
      ap is_known (sym (told_step id Empty told (bytes_eq last.key key) last.effect refl says))
      ∙ known_step id Empty (bytes_eq last.key key) last.effect refl

pub unknown_until_issued : UnknownUntilIssued
unknown_until_issued entries key id none = unknown_from key id entries none

pub empty_until_graded : EmptyUntilGraded
empty_until_graded front behind issue key id none is silent =
    behind_issue key id front behind issue none is ∙ silent_from key id Empty behind refl silent

pub last_decides : LastDecides
last_decides front between behind issue last key id told none is says silent =
    let middle = fold (after_entry key id) Empty between in
    behind_issue key id front (between ++ last ∷ behind) issue none is
    ∙ fold-append (after_entry key id) Empty between (last ∷ behind)
    ∙ ap (λ (s : Standing). fold (after_entry key id) s behind) (told_step id middle told (bytes_eq last.key key) last.effect (known_from key id Empty between refl) says)
    ∙ silent_from key id told behind (told_known key id last told says) silent
