-- Minutes are forgotten one by one, from the first on.
use Rattle.std.proofs.Common.{◌≡◌, ◌<◌, ◌≤◌, ◌-◌, ℕ, Bool, true, false, List, [], ◌∷◌, length, filter, nat_eq, nat_le, refl, sym, ap, ◌∙◌, subst, arith, get_or, ⊎_elim, set}
use Rattle.std.specs.List.{AllByRecursion, All}
use Rattle.std.specs.List.Sorted.{IsStrictlySortedBy}
use Rattle.std.specs.Map.{keys_of}
use Rattle.std.proofs.lemmas.Bool.{cond-true, cond-false, cases_eq, false_from_ne_true, eqb-true}
use Rattle.std.proofs.lemmas.Bool.Decides.{nat_tests}
use Rattle.std.proofs.lemmas.List.{get_or-set_same, get_or-set_other, length-set}
use Rattle.std.proofs.lemmas.List.Elements.{recursion_from_All}
use Rattle.std.proofs.lemmas.List.Sums.{sum_by-cons}
use Rattle.lti_machine.specs.Nonces.{Stamp}
use Rattle.nonce_window.specs.Nonces.{Table, place_cmp, count_at, AreCounted}

-- the entry's minute isn't forgotten
abbrev pub stays : ℕ → (ℕ × ℕ) × List Stamp → Bool
stays first e = nat_le first e.0.0

-- the table and the counts are what was there at first, without some minutes before `first`
pub record IsForgetting (first : ℕ) (table : Table) (counts : List ℕ) (left : Table) (rest : List ℕ) : Type 0 where
  pub same : filter (stays first) left ≡ filter (stays first) table
  pub counted : AreCounted rest left
  pub long : length rest ≡ length counts
  pub ordered : IsStrictlySortedBy place_cmp (keys_of left)

pub less_counted : (counts : List ℕ) (place : ℕ × ℕ) (ss : List Stamp) (rest : Table) → AreCounted counts ((place, ss) ∷ rest) → AreCounted (set counts place.1 (get_or counts place.1 0 - length ss)) rest
less_counted counts place ss rest counted = record {
  numbered = subst (λ n. AllByRecursion (λ (e : (ℕ × ℕ) × List Stamp). e.0.1 < n) rest) (sym (length-set counts place.1 (get_or counts place.1 0 - length ss))) counted.numbered.1;
  totals = λ number.
      let old = counted.totals number in
      let sum = sum_by-cons (count_at number 0) (place, ss) rest in
      ⊎_elim
      (λ same.
      let here : nat_eq place.1 number ≡ true = grind (arith, nat_tests) in
      let one : count_at number 0 (place, ss) ≡ length ss = grind (arith, nat_tests) in
      let at = get_or-set_same counts place.1 (get_or counts place.1 0 - length ss) 0 counted.numbered.0 in
      let place_is = ap (λ n. get_or counts n 0) same in
      ap (λ n. get_or (set counts place.1 (get_or counts place.1 0 - length ss)) n 0) (sym same) ∙ omega (arith, at, old, sum, one, place_is))
      (λ other.
      let apart : nat_eq place.1 number ≡ false = false_from_ne_true (nat_eq place.1 number) (λ e. other (eqb-true place.1 number e)) in
      let one : count_at number 0 (place, ss) ≡ 0 = grind (arith, nat_tests) in
      get_or-set_other counts place.1 number (get_or counts place.1 0 - length ss) 0 (λ e. other (sym e)) ∙ omega (arith, old, sum, one))
      (cases_eq place.1 number);
}

-- one more minute goes
pub forgets_one : (first : ℕ) (table : Table) (counts : List ℕ) (left : Table) (rest : List ℕ) (place : ℕ × ℕ) (ss : List Stamp) (after : Table) → IsForgetting first table counts left rest → left ≡ (place, ss) ∷ after → place.0 < first → IsStrictlySortedBy place_cmp (keys_of after) → IsForgetting first table counts after (set rest place.1 (get_or rest place.1 0 - length ss))
forgets_one first table counts left rest place ss after forgetting popped before ordered = record {
  same =
      let out : nat_le first place.0 ≡ false = grind (arith, nat_tests) in
      sym (ap (filter (stays first)) popped ∙ cond-false (nat_le first place.0) ((place, ss) ∷ filter (stays first) after) (filter (stays first) after) out) ∙ forgetting.same;
  counted = less_counted rest place ss after (subst (AreCounted rest) popped forgetting.counted);
  long = length-set rest place.1 (get_or rest place.1 0 - length ss) ∙ forgetting.long;
  ordered = ordered;
}

all_stay : (first : ℕ) (left : Table) → AllByRecursion (λ (q : ℕ × ℕ). first ≤ q.0) (keys_of left) → filter (stays first) left ≡ left
all_stay first [] all = refl
all_stay first (e ∷ es) all =
    let in_ : nat_le first e.0.0 ≡ true = grind (arith, nat_tests, all.0) in
    cond-true (nat_le first e.0.0) (e ∷ filter (stays first) es) (filter (stays first) es) in_ ∙ ap (λ l. e ∷ l) (all_stay first es all.1)

-- what is left is what isn't forgotten
pub forgotten : (first : ℕ) (table : Table) (counts : List ℕ) (left : Table) (rest : List ℕ) → IsForgetting first table counts left rest → All (λ (q : ℕ × ℕ). first ≤ q.0) (keys_of left) → left ≡ filter (stays first) table
forgotten first table counts left rest forgetting all =
    sym (all_stay first left (recursion_from_All (λ q. first ≤ q.0) (keys_of left) all)) ∙ forgetting.same

-- a minute has no more than stand beside its key's number
pub one_le : (counts : List ℕ) (place : ℕ × ℕ) (ss : List Stamp) (rest : Table) → AreCounted counts ((place, ss) ∷ rest) → length ss ≤ get_or counts place.1 0
one_le counts place ss rest counted =
    let one : count_at place.1 0 (place, ss) ≡ length ss = grind (arith, nat_tests) in
    omega (arith, counted.totals place.1, sum_by-cons (count_at place.1 0) (place, ss) rest, one)
