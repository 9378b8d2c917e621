-- A table with one more stamp.
use Rattle.std.proofs.Common.{◌≡◌, ◌<◌, ◌≤◌, ◌+◌, inl, inr, ℕ, zero, suc, Bool, true, false, List, [], ◌∷◌, ◌++◌, map, length, ◌&&◌, nat_eq, nat_le, nat_lt, set, refl, sym, ap, ◌∙◌, subst, arith, Some, None, get_or, ⊎_elim, if◌then◌else◌}
use Rattle.std.specs.List.{All, AllByRecursion}
use Rattle.std.specs.Ordering.{is_lt}
use Rattle.std.specs.Map.{keys_of, lookup, set_value}
use Rattle.std.specs.BTreeMap.{insert_entry}
use Rattle.std.proofs.lemmas.List.{get_or_append_left, get_or-set_same, get_or-set_other, length-set, length-append}
use Rattle.std.proofs.lemmas.List.Elements.{recursion_from_All}
use Rattle.std.proofs.lemmas.List.Sums.{sum_by-cons, sum_by-append}
use Rattle.std.proofs.lemmas.Bool.{cond_both, cond-true, cond-false, cases_eq, false_from_ne_true, eqb-true}
use Rattle.std.proofs.lemmas.Bool.Decides.{nat_tests}
use Rattle.lti_machine.specs.Nonces.{Stamp}
use Rattle.nonce_window.specs.Added.{IsAdded}
use Rattle.nonce_window.specs.Keys.{key_at}
use Rattle.nonce_window.specs.Nonces.{Table, place_cmp, plain_in, entries_at, entries_of, count_at, total, IsWithin, AreWithin, AreCounted}
use Rattle.nonce_window.specs.Placed.{IsPlaced}
use Rattle.nonce_window.proofs.AddedLemmas.{added-length, added-map, added-changed, added-new}
use Rattle.nonce_window.proofs.KeyedLemmas.{changed, inserted}
use Rattle.nonce_window.proofs.TableLemmas.{is_place, same_place, all_left, all_right, all_join, all_weaker}

-- ---- where one comes from

pub placed_changed : (es fs : Table) (place : ℕ × ℕ) (v w : List Stamp) (stamp : Stamp) → lookup (is_place place) es ≡ Some v → fs ≡ set_value (is_place place) es w → IsAdded v stamp w → IsPlaced es place stamp fs
placed_changed es fs place v w stamp found set added =
    let change = changed (is_place place) es v w found in
    let at : change.at ≡ place = sym (same_place place change.at change.passes) in
    record {
      front = change.front;
      back = change.back;
      was = v;
      is = w;
      before_is = inl (change.was ∙ (λ i. change.front ++ (at i, v) ∷ change.back));
      after_is = set ∙ change.is ∙ (λ i. change.front ++ (at i, w) ∷ change.back);
      added = added;
    }

pub placed_new : (es fs : Table) (place : ℕ × ℕ) (was is : List Stamp) (stamp : Stamp) → lookup (is_place place) es ≡ None → fs ≡ insert_entry place_cmp es place is → was ≡ [] → IsAdded was stamp is → IsPlaced es place stamp fs
placed_new es fs place was is stamp none put empty added =
    let entry = inserted place_cmp es place is none in
    record { front = entry.front; back = entry.back; was = was; is = is; before_is = inr (entry.was, empty); after_is = put ∙ entry.is; added = added }

-- ---- what it tells

module _ (before after : Table) (place : ℕ × ℕ) (stamp : Stamp) (placed : IsPlaced before place stamp after) where
  pub placed_entries : (keys : List (List ℕ)) → IsAdded (entries_of keys before) (plain_in (key_at keys place.1) place.0 stamp) (entries_of keys after)
  placed_entries keys =
      let f = plain_in (key_at keys place.1) place.0 in
      ⊎_elim
      (λ there. added-changed (entries_at keys) before after placed.front placed.back (place, placed.was) (place, placed.is) (f stamp) there placed.after_is (added-map f placed.was placed.is stamp placed.added))
      (λ new. added-new (entries_at keys) before after placed.front placed.back (place, placed.is) (f stamp) new.0 placed.after_is (added-map f [] placed.is stamp (subst (λ l. IsAdded l stamp placed.is) new.1 placed.added)))
      placed.before_is

  pub placed_total : (number : ℕ) → total number 0 after ≡ total number 0 before + (if nat_eq place.1 number then 1 else 0)
  placed_total number =
      let more = added-length placed.was placed.is stamp placed.added in
      let one : count_at number 0 (place, placed.is) ≡ count_at number 0 (place, placed.was) + (if nat_eq place.1 number then 1 else 0) = grind (arith, nat_tests) in
      let new : total number 0 after ≡ total number 0 placed.front + (count_at number 0 (place, placed.is) + total number 0 placed.back) =
      ap (total number 0) placed.after_is ∙ parts number placed.is in
      ⊎_elim
      (λ there. omega (arith, new, one, ap (total number 0) there, parts number placed.was))
      (λ absent. let empty : count_at number 0 (place, placed.was) ≡ 0 = ap (λ l. count_at number 0 (place, l)) absent.1 ∙ zero_if (nat_eq place.1 number) in
      omega (arith, new, one, empty, ap (total number 0) absent.0, sum_by-append (count_at number 0) placed.front placed.back))
      placed.before_is
    where
      parts : (number : ℕ) (ss : List Stamp) → total number 0 (placed.front ++ (place, ss) ∷ placed.back) ≡ total number 0 placed.front + (count_at number 0 (place, ss) + total number 0 placed.back)
      parts number ss = omega (arith, sum_by-append (count_at number 0) placed.front ((place, ss) ∷ placed.back), sum_by-cons (count_at number 0) (place, ss) placed.back)

      zero_if : (b : Bool) → ◌≡◌ {A = ℕ} (if (b && nat_le 0 place.0) then 0 else 0) 0
      zero_if b = cond_both (b && nat_le 0 place.0) 0 0 (λ n. ◌≡◌ {A = ℕ} n 0) (λ _. refl) (λ _. refl)

  all_after : (P : (ℕ × ℕ) × List Stamp → Type 0) → AllByRecursion P before → P (place, placed.is) → AllByRecursion P after
  all_after P all here =
      ⊎_elim
      (λ there. let old = subst (AllByRecursion P) there all in
      subst (AllByRecursion P) (sym placed.after_is) (all_join P placed.front ((place, placed.is) ∷ placed.back) (all_left P placed.front ((place, placed.was) ∷ placed.back) old) (here, (all_right P placed.front ((place, placed.was) ∷ placed.back) old).1)))
      (λ absent. let old = subst (AllByRecursion P) absent.0 all in
      subst (AllByRecursion P) (sym placed.after_is) (all_join P placed.front ((place, placed.is) ∷ placed.back) (all_left P placed.front placed.back old) (here, all_right P placed.front placed.back old)))
      placed.before_is

  pub placed_numbered : (n : ℕ) → place.1 < n → AllByRecursion (λ e. e.0.1 < n) before → AllByRecursion (λ e. e.0.1 < n) after
  placed_numbered n below all = all_after (λ e. e.0.1 < n) all below

  pub placed_within : IsWithin place.0 stamp → AllByRecursion AreWithin before → AllByRecursion AreWithin after
  placed_within within all = all_after AreWithin all here
    where
      was_within : AllByRecursion (IsWithin place.0) placed.was
      was_within =
          ⊎_elim
          (λ there. (all_right AreWithin placed.front ((place, placed.was) ∷ placed.back) (subst (AllByRecursion AreWithin) there all)).0)
          (λ absent. subst (AllByRecursion (IsWithin place.0)) (sym absent.1) tt)
          placed.before_is

      here : AllByRecursion (IsWithin place.0) placed.is
      here =
          let old = subst (AllByRecursion (IsWithin place.0)) placed.added.was was_within in
          subst (AllByRecursion (IsWithin place.0)) (sym placed.added.is) (all_join (IsWithin place.0) placed.added.front (stamp ∷ placed.added.back) (all_left (IsWithin place.0) placed.added.front placed.added.back old) (within, all_right (IsWithin place.0) placed.added.front placed.added.back old))

-- ---- a key with a new number

pub pushed_zero : (xs : List ℕ) (n : ℕ) → get_or (xs ++ 0 ∷ []) n 0 ≡ get_or xs n 0
pushed_zero [] zero = refl
pushed_zero [] (suc n) = refl
pushed_zero (x ∷ xs) zero = refl
pushed_zero (x ∷ xs) (suc n) = pushed_zero xs n

pub same_entries : (keys : List (List ℕ)) (key : List ℕ) (table : Table) → AllByRecursion (λ e. e.0.1 < length keys) table → entries_of (keys ++ key ∷ []) table ≡ entries_of keys table
same_entries keys key [] all = refl
same_entries keys key (e ∷ es) all =
    λ i. map (plain_in (get_or_append_left keys (key ∷ []) [] e.0.1 all.0 i) e.0.0) e.1 ++ same_entries keys key es all.1 i

pub pushed_counts : (counts : List ℕ) (table : Table) → AreCounted counts table → AreCounted (counts ++ 0 ∷ []) table
pushed_counts counts table counted = record {
  numbered = all_weaker (λ e. e.0.1 < length counts) (λ e. e.0.1 < length (counts ++ 0 ∷ [])) (λ e h. omega (arith, h, length-append counts (0 ∷ []))) table counted.numbered;
  totals = λ number. pushed_zero counts number ∙ counted.totals number;
}

-- ---- the last minute

last_le : (p q : ℕ × ℕ) → is_lt (place_cmp p q) ≡ false → q.0 ≤ p.0
last_le p q below = grind (arith, nat_tests)

none_after : (table : Table) (p : ℕ × ℕ) (last number : ℕ) → p.0 < last → AllByRecursion (λ q. is_lt (place_cmp p q) ≡ false) (keys_of table) → total number last table ≡ 0
none_after [] p last number below all = refl
none_after (e ∷ es) p last number below all =
    let le = last_le p e.0 all.0 in
    let one : count_at number last e ≡ 0 = grind (arith, nat_tests) in
    omega (arith, sum_by-cons (count_at number last) e es, one, none_after es p last number below all.1)

pub none_from_last : (table : Table) (p : ℕ × ℕ) (last number : ℕ) → nat_lt p.0 last ≡ true → All (λ q. is_lt (place_cmp p q) ≡ false) (keys_of table) → total number last table ≡ 0
none_from_last table p last number below all =
    none_after table p last number (grind (arith, nat_tests)) (recursion_from_All (λ q. is_lt (place_cmp p q) ≡ false) (keys_of table) all)

-- ---- one more for its key

pub more_counted : (counts : List ℕ) (before after : Table) (place : ℕ × ℕ) (stamp : Stamp) → AreCounted counts before → IsPlaced before place stamp after → place.1 < length counts → AreCounted (set counts place.1 (get_or counts place.1 0 + 1)) after
more_counted counts before after place stamp counted placed known = record {
  numbered = subst (λ n. AllByRecursion (λ (e : (ℕ × ℕ) × List Stamp). e.0.1 < n) after) (sym (length-set counts place.1 (get_or counts place.1 0 + 1))) (placed_numbered before after place stamp placed (length counts) known counted.numbered);
  totals = λ number.
      let old = counted.totals number in
      let more = placed_total before after place stamp placed number in
      ⊎_elim
      (λ same.
      let here : nat_eq place.1 number ≡ true = grind (arith, nat_tests) in
      let one = cond-true {A = ℕ} (nat_eq place.1 number) 1 0 here in
      let at = get_or-set_same counts place.1 (get_or counts place.1 0 + 1) 0 known in
      let place_is = ap (λ n. get_or counts n 0) same in
      ap (λ n. get_or (set counts place.1 (get_or counts place.1 0 + 1)) n 0) (sym same) ∙ omega (arith, at, old, more, one, place_is))
      (λ other.
      let apart : nat_eq place.1 number ≡ false = false_from_ne_true (nat_eq place.1 number) (λ e. other (eqb-true place.1 number e)) in
      let one = cond-false {A = ℕ} (nat_eq place.1 number) 1 0 apart in
      get_or-set_other counts place.1 number (get_or counts place.1 0 + 1) 0 (λ e. other (sym e)) ∙ omega (arith, old, more, one))
      (cases_eq place.1 number);
}
