-- Which ids are issued, how each stands, and what one more entry changes in the rows.
use Rattle.std.proofs.Common.{◌≡◌, ℕ, Bool, true, false, true≢false, cond, ◌&&◌, ◌||◌, List, [], ◌∷◌, ◌++◌, map, refl, sym, ap, ◌∙◌, bytes_eq, if◌then◌else◌}
use Rattle.std.specs.Bool.{⊤}
use Rattle.std.specs.Cmp.Lexicographic.{nat_list_eq_equiv}
use Rattle.std.specs.List.{fold, list_any}
use Rattle.std.proofs.lemmas.Bool.{and_parts, and_from, or_parts, or_right, or_left, or_from, cond_both}
use Rattle.std.proofs.lemmas.List.Folds.{list_any-append}
use Rattle.lti_machine.specs.declared.entry.Entry.{Entry}
use Rattle.lti_machine.specs.declared.entry.Effect.{Effect}
use Rattle.lti_machine.specs.declared.entry.Effect.TheVariants as effect
use Rattle.lti_machine.specs.declared.standing.Standing.{Standing}
use Rattle.lti_machine.specs.declared.standing.Standing.TheVariants.{Unknown, Empty, Scored}
use Rattle.lti_machine.specs.Standings as standings
use Rattle.lti_machine.specs.Rows.{Owned, RowValue, same_owned, add_owned, after_effect, after_entry, issued}
use Rattle.lti_machine.specs.Rows.{standing_in}
use Rattle.lti_machine.specs.Rows.{has_row}
use Rattle.lti_machine.proofs.TextTests.{same_bytes, bytes_same}

-- ---- the same id under the same key

pub same_from_test : (a b : Owned) → same_owned a b ≡ true → a ≡ b
same_from_test a b test =
    let parts = and_parts (bytes_eq a.key b.key) (bytes_eq a.id b.id) test in
    let keys = same_bytes _ _ parts.0 in
    let ids = same_bytes _ _ parts.1 in
    λ i. record { key = keys i; id = ids i }

pub same_itself : (a : Owned) → same_owned a a ≡ true
same_itself a = and_from (bytes_eq a.key a.key) (bytes_eq a.id a.id) (bytes_same a.key a.key refl) (bytes_same a.id a.id refl)

pub same_flips : (a b : Owned) → same_owned a b ≡ same_owned b a
same_flips a b =
    let keys = nat_list_eq_equiv.symm a.key b.key in
    let ids = nat_list_eq_equiv.symm a.id b.id in
    λ i. keys i && ids i

-- ---- the ids after one more

or_false : (b : Bool) → (b || false) ≡ b
or_false true = refl
or_false false = refl

list_any-add : (o p : Owned) (os : List Owned) → list_any (same_owned o) (add_owned os p) ≡ (list_any (same_owned o) os || same_owned o p)
list_any-add o p os =
    cond_both (list_any (same_owned p) os) os (os ++ p ∷ []) (λ x. list_any (same_owned o) x ≡ (list_any (same_owned o) os || same_owned o p))
    (λ there. by (same_owned o p) (λ same. ap (λ x. list_any (same_owned x) os) (same_from_test o p same) ∙ there))
    (λ _. list_any-append (same_owned o) os (p ∷ []) ∙ ap (λ b. list_any (same_owned o) os || b) (or_false (same_owned o p)))
  where
    by : (b : Bool) → (b ≡ true → list_any (same_owned o) os ≡ true) → list_any (same_owned o) os ≡ (list_any (same_owned o) os || b)
    by true h = h refl ∙ sym (or_right (list_any (same_owned o) os) true refl)
    by false h = sym (or_false (list_any (same_owned o) os))

-- no id repeats
abbrev pub Apart : List Owned → Type 0
Apart [] = ⊤
Apart (p ∷ ps) = (list_any (same_owned p) ps ≡ false) × Apart ps

apart-push : (os : List Owned) (p : Owned) → Apart os → list_any (same_owned p) os ≡ false → Apart (os ++ p ∷ [])
apart-push [] p apart new = (refl, tt)
apart-push (q ∷ qs) p apart new =
    let parts = or_parts (same_owned p q) (list_any (same_owned p) qs) new in (
      list_any-append (same_owned q) qs (p ∷ []) ∙ or_from (list_any (same_owned q) qs) (same_owned q p || false) apart.0 (or_from (same_owned q p) false (same_flips q p ∙ parts.0) refl),
      apart-push qs p apart.1 parts.1,
    )

apart-add : (os : List Owned) (p : Owned) → Apart os → Apart (add_owned os p)
apart-add os p apart = cond_both (list_any (same_owned p) os) os (os ++ p ∷ []) Apart (λ _. apart) (λ new. apart-push os p apart new)

apart-effect : (os : List Owned) (key : List ℕ) (x : Effect) → Apart os → Apart (after_effect os key x)
apart-effect os key (effect.Issued id) apart = apart-add os (record { key = key; id = id }) apart
apart-effect os key effect.Nothing apart = apart
apart-effect os key (effect.Launch link user sourced_id service) apart = apart
apart-effect os key (effect.Grade id score) apart = apart
apart-effect os key (effect.Cleared id) apart = apart

apart-fold : (os : List Owned) (entries : List Entry) → Apart os → Apart (fold after_entry os entries)
apart-fold os [] apart = apart
apart-fold os (e ∷ es) apart = apart-fold (after_entry os e) es (apart-effect os e.key e.effect apart)

pub issued_apart : (entries : List Entry) → Apart (issued entries)
issued_apart entries = apart-fold [] entries tt

-- ---- an id is known exactly where it is issued

abbrev pub is_known : Standing → Bool
is_known Unknown = false
is_known Empty = true
is_known (Scored score) = true

pub nested : {A : Type 0} (a b : Bool) (x y : A) → cond a (cond b x y) y ≡ cond (a && b) x y
nested true b x y = refl
nested false b x y = refl

known_issued : (s : Standing) (b c : Bool) → is_known s ≡ b → is_known (cond c (standings.when_issued s) s) ≡ (b || c)
known_issued s b false known = known ∙ sym (or_false b)
known_issued Unknown b true known = sym (or_right b true refl)
known_issued Empty b true known = sym (or_right b true refl)
known_issued (Scored score) b true known = sym (or_right b true refl)

known_set : (s w : Standing) → is_known w ≡ true → (a b : Bool) → is_known (cond a (cond b (standings.when_set s w) s) s) ≡ is_known s
known_set s w known false b = refl
known_set s w known true false = refl
known_set Unknown w known true true = refl
known_set Empty w known true true = known
known_set (Scored score) w known true true = known

pub same_both : {A : Type 0} (b : Bool) (x : A) → cond b x x ≡ x
same_both true x = refl
same_both false x = refl

known_effect : (o : Owned) (s : Standing) (os : List Owned) (key : List ℕ) (x : Effect) → is_known s ≡ list_any (same_owned o) os
    → is_known (if bytes_eq key o.key then standings.after_effect o.id s x else s) ≡ list_any (same_owned o) (after_effect os key x)
known_effect o s os key (effect.Issued id) known =
    ap is_known (nested (bytes_eq key o.key) (bytes_eq id o.id) (standings.when_issued s) s)
    ∙ known_issued s (list_any (same_owned o) os) (same_owned (record { key = key; id = id }) o) known
    ∙ ap (λ b. list_any (same_owned o) os || b) (same_flips (record { key = key; id = id }) o)
    ∙ sym (list_any-add o (record { key = key; id = id }) os)
known_effect o s os key effect.Nothing known = ap is_known (same_both (bytes_eq key o.key) s) ∙ known
known_effect o s os key (effect.Launch link user sourced_id service) known = ap is_known (same_both (bytes_eq key o.key) s) ∙ known
known_effect o s os key (effect.Grade id score) known = known_set s (Scored score) refl (bytes_eq key o.key) (bytes_eq id o.id) ∙ known
known_effect o s os key (effect.Cleared id) known = known_set s Empty refl (bytes_eq key o.key) (bytes_eq id o.id) ∙ known

known_fold : (o : Owned) (s : Standing) (os : List Owned) (entries : List Entry) → is_known s ≡ list_any (same_owned o) os
    → is_known (fold (standings.after_entry o.key o.id) s entries) ≡ list_any (same_owned o) (fold after_entry os entries)
known_fold o s os [] known = known
known_fold o s os (e ∷ es) known =
    known_fold o (standings.after_entry o.key o.id s e) (after_entry os e) es (known_effect o s os e.key e.effect known)

pub known_is_issued : (entries : List Entry) (o : Owned) → is_known (standings.standing entries o.key o.id) ≡ list_any (same_owned o) (issued entries)
known_is_issued entries o = known_fold o Unknown [] entries refl

pub unknown_from : (s : Standing) → is_known s ≡ false → s ≡ Unknown
unknown_from Unknown known = refl
unknown_from Empty known = absurd (true≢false known)
unknown_from (Scored score) known = absurd (true≢false known)

pub unknown_not_known : (s : Standing) → s ≡ Unknown → is_known s ≡ false
unknown_not_known s unknown = ap is_known unknown

-- ---- the rows, where each id stands as a function says

abbrev pub row_by : (List ℕ → List ℕ → Standing) → Owned → RowValue
row_by stands p = record { key = p.key; id = p.id; standing = stands p.key p.id }

-- the ids of the list are known
abbrev pub AreKnown : (List ℕ → List ℕ → Standing) → List Owned → Type 0
AreKnown stands os = (p : Owned) → list_any (same_owned p) os ≡ true → is_known (stands p.key p.id) ≡ true

pub known_head : (stands : List ℕ → List ℕ → Standing) (p : Owned) (ps : List Owned) → AreKnown stands (p ∷ ps) → is_known (stands p.key p.id) ≡ true
known_head stands p ps known = known p (or_left (same_owned p p) (list_any (same_owned p) ps) (same_itself p))

pub known_tail : (stands : List ℕ → List ℕ → Standing) (p : Owned) (ps : List Owned) → AreKnown stands (p ∷ ps) → AreKnown stands ps
known_tail stands p ps known = λ q there. known q (or_right (same_owned q p) (list_any (same_owned q) ps) there)

pub has_row-by : (stands : List ℕ → List ℕ → Standing) (o : Owned) (os : List Owned) → has_row (map (row_by stands) os) o.key o.id ≡ list_any (same_owned o) os
has_row-by stands o [] = refl
has_row-by stands o (p ∷ ps) = ap (λ b. same_owned o p || b) (has_row-by stands o ps)

pub standing_in-by : (stands : List ℕ → List ℕ → Standing) (o : Owned) (os : List Owned) → standing_in (map (row_by stands) os) o.key o.id ≡ cond (list_any (same_owned o) os) (stands o.key o.id) Unknown
standing_in-by stands o [] = refl
standing_in-by stands o (p ∷ ps) = by (same_owned o p) (λ same. ap (λ q. stands q.key q.id) (sym (same_from_test o p same))) (standing_in-by stands o ps)
  where
    by : (b : Bool) → (b ≡ true → stands p.key p.id ≡ stands o.key o.id) → standing_in (map (row_by stands) ps) o.key o.id ≡ cond (list_any (same_owned o) ps) (stands o.key o.id) Unknown
        → cond b (stands p.key p.id) (standing_in (map (row_by stands) ps) o.key o.id) ≡ cond (b || list_any (same_owned o) ps) (stands o.key o.id) Unknown
    by true same rest = same refl
    by false same rest = rest
