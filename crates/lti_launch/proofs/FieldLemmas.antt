-- The parameters by their names and their places.
use Rattle.std.proofs.Common.{Bor, zero, suc, map, slice_index_or, ◌≡◌, ℕ, Bool, true, false, cond, ◌==◌, List, [], ◌∷◌, length, bytes_eq, refl, ap, ◌∙◌, Some, arith}
use Rattle.std.specs.List.{find, filter}
use Rattle.std.proofs.lemmas.Bool.Decides.{nat_tests}
use Rattle.std.proofs.lemmas.Slice.Eq.{bytes_eq-Decides}
use Rattle.lti_launch.specs.declared.fields.LaunchField.{LaunchField}
use Rattle.lti_launch.specs.Fields.{all_fields, name_of, place_of, fields_of_length}
use Rattle.lti_launch.proofs.NameLemmas.{one_of_name}
use Rattle.lti_launch.proofs.PlaceLemmas.{at_place}

module _ {X : Type 0} (p q : X → Bool) (only : (x : X) → p x ≡ true → q x ≡ true) where
  one_more : (x : X) (xs kept : List X) (b c : Bool) → p x ≡ b → q x ≡ c → find p kept ≡ find p xs → find p (cond (q x) (x ∷ kept) kept) ≡ cond (p x) (Some x) (find p xs)
  one_more x xs kept b true is in_q same = rw in_q (ap (cond (p x) (Some x)) same)
  one_more x xs kept true false is out same = absurd (grind (arith, only x is, out))
  one_more x xs kept false false is out same = rw (out, is) same

  -- what passes p passes q too, so p is looked for among those that pass q
  find_among : (xs : List X) → find p (filter q xs) ≡ find p xs
  find_among [] = refl
  find_among (x ∷ xs) = one_more x xs (filter q xs) (p x) (q x) refl refl (find_among xs)

same_length : (xs ys : List ℕ) → bytes_eq xs ys ≡ true → (length xs == length ys) ≡ true
same_length xs ys same = let is : xs ≡ ys = (bytes_eq-Decides xs ys).0 same in rw is (grind (arith, nat_tests))

-- names of other lengths are other names
pub find_of_length : (name : List ℕ) → find (λ field. bytes_eq (name_of field) name) (fields_of_length (length name)) ≡ find (λ field. bytes_eq (name_of field) name) all_fields
unfolding fields_of_length
find_of_length name = find_among (λ field. bytes_eq (name_of field) name) (λ field. length (name_of field) == length name) (λ field same. same_length (name_of field) name same) all_fields

now_at : (names : List (Bor (List ℕ))) (place : ℕ) (other : Bor (List ℕ)) → (slice_index_or names place other).now ≡ slice_index_or (map (λ name. name.now) names) place other.now
now_at [] place other = refl
now_at (name ∷ names) zero other = refl
now_at (name ∷ names) (suc place) other = now_at names place other

-- the name at a parameter's place
pub name_at : (names : List (Bor (List ℕ))) (place : ℕ) (other : Bor (List ℕ)) (field : LaunchField) → place ≡ place_of field
    → map (λ name. name.now) names ≡ map name_of all_fields → (slice_index_or names place other).now ≡ name_of field
unfolding place_of
name_at names place other field at are =
    now_at names place other ∙ (λ i. slice_index_or (are i) (at i) other.now)
    ∙ at_place (λ f. bytes_eq (name_of f) (name_of field)) name_of other.now all_fields field (one_of_name field)
