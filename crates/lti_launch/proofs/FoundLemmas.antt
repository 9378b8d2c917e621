-- What is found under the names of the parameters.
use Rattle.std.proofs.Common.{◌≡◌, ℕ, ◌+◌, ◌==◌, nat_lt, Bool, true, false, not, ◌||◌, ◌&&◌, cond, List, [], ◌∷◌, length, map, refl, sym, ap, ◌∙◌, Some, None, slice_get, arith}
use Rattle.std.specs.List.{find, position_or_len, position, list_any, list_all}
use Rattle.std.proofs.lemmas.Bool.Decides.{nat_tests}
use Rattle.std.proofs.lemmas.List.Folds.{find_at}
use Rattle.std.proofs.lemmas.List.{length-map}
use Rattle.std.proofs.lemmas.Option.{slice_get_past}
use Rattle.lti_outside.specs.declared.pairs.Pair.{Pair}
use Rattle.lti_launch.specs.declared.fields.LaunchField.{LaunchField}
use Rattle.lti_launch.specs.declared.found.Found.{Found}
use Rattle.lti_launch.specs.Fields.{all_fields}
use Rattle.lti_launch.specs.Parameters.{values}
use Rattle.lti_launch.specs.Faults.{fits, is_wrong, is_repeated}
use Rattle.lti_launch.specs.Found.{found_of, found_in, is_repeat, is_unfit}

-- the first place in a list that was mapped
place-map : {X Y : Type 0} (p : Y → Bool) (f : X → Y) (xs : List X) → position_or_len p (map f xs) ≡ position_or_len (λ x. p (f x)) xs
place-map p f [] = refl
place-map p f (x ∷ xs) = ap (λ (n : ℕ). cond (not (p (f x))) (1 + n) 0) (place-map p f xs)

find_agree : {X : Type 0} (p q : X → Bool) → ((x : X) → p x ≡ q x) → (xs : List X) → find p xs ≡ find q xs
find_agree p q same [] = refl
find_agree p q same (x ∷ xs) = rw (same x) (ap (cond (q x) (Some x)) (find_agree p q same xs))

repeated_found : (pairs : List Pair) (field : LaunchField) → is_repeated pairs field ≡ is_repeat (found_in pairs field)
repeated_found pairs field = by (values field pairs)
  where
    by : (vs : List (List ℕ)) → nat_lt 1 (length vs) ≡ is_repeat (found_of field vs)
    by [] = refl
    by (v ∷ []) = refl
    by (v ∷ w ∷ vs) = grind (arith, nat_tests)

-- the first parameter that stands twice is at the first place where two values were found
pub first_found : (pairs : List Pair) (fields : List LaunchField)
    → find (is_repeated pairs) fields ≡ slice_get fields (position_or_len is_repeat (map (found_in pairs) fields))
first_found pairs fields =
    find_agree (is_repeated pairs) (λ field. is_repeat (found_in pairs field)) (repeated_found pairs) fields
    ∙ find_at (λ field. is_repeat (found_in pairs field)) fields
    ∙ ap (slice_get fields) (sym (place-map is_repeat (found_in pairs) fields))

some_place : {X : Type 0} (p : X → Bool) (xs : List X) (place : ℕ) → Some place ≡ position p xs → place ≡ position_or_len p xs
some_place p xs place is = by (nat_lt (position_or_len p xs) (length xs)) is
  where
    by : (below : Bool) → Some place ≡ cond below (Some (position_or_len p xs)) None → place ≡ position_or_len p xs
    by true e = cc
    by false e = absurd (cc)

none_place : {X Y : Type 0} (p : X → Bool) (xs : List X) (ys : List Y) → length xs ≡ length ys → None ≡ position p xs → slice_get ys (position_or_len p xs) ≡ None
none_place p xs ys long is = by (nat_lt (position_or_len p xs) (length xs)) refl is
  where
    by : (below : Bool) → nat_lt (position_or_len p xs) (length xs) ≡ below → None ≡ cond below (Some (position_or_len p xs)) None → slice_get ys (position_or_len p xs) ≡ None
    by true test e = absurd (cc)
    by false test e = slice_get_past ys (position_or_len p xs) (grind (arith, nat_tests, test, long))

module _ (found : List Found) (pairs : List Pair) (is : found ≡ map (found_in pairs) all_fields) where
  pub found_at : (place : ℕ) → Some place ≡ position is_repeat found → slice_get all_fields place ≡ find (is_repeated pairs) all_fields
  found_at place at =
      ap (slice_get all_fields) (some_place is_repeat found place at ∙ ap (position_or_len is_repeat) is) ∙ sym (first_found pairs all_fields)

  pub found_nowhere : None ≡ position is_repeat found → find (is_repeated pairs) all_fields ≡ None
  found_nowhere nowhere =
      first_found pairs all_fields ∙ none_place is_repeat (map (found_in pairs) all_fields) all_fields (length-map all_fields (found_in pairs)) (nowhere ∙ ap (position is_repeat) is)

or_false : (b : Bool) → b ≡ (b || false)
or_false true = refl
or_false false = refl

not_all : {X : Type 0} (p : X → Bool) (xs : List X) → not (list_all p xs) ≡ list_any (λ x. not (p x)) xs
not_all p [] = refl
not_all p (x ∷ xs) = by (p x) (not_all p xs)
  where
    by : (b : Bool) → not (list_all p xs) ≡ list_any (λ x. not (p x)) xs → not (b && list_all p xs) ≡ (not b || list_any (λ x. not (p x)) xs)
    by true more = more
    by false more = refl

-- what is found unfit is what is wrong
pub unfit_found : (field : LaunchField) (pairs : List Pair) → is_unfit field (found_in pairs field) ≡ is_wrong field pairs
unfit_found field pairs = by (values field pairs)
  where
    by : (vs : List (List ℕ)) → is_unfit field (found_of field vs) ≡ (length vs == 0 || list_any (λ v. not (fits field v)) vs)
    by [] = refl
    by (v ∷ []) = or_false (not (fits field v))
    by (v ∷ w ∷ vs) = let some : (length (v ∷ w ∷ vs) == 0) ≡ false = grind (arith, nat_tests) in rw some (not_all (fits field) (v ∷ w ∷ vs))
