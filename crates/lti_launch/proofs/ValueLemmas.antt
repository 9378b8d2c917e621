-- The values that stand under a parameter's name.
use Rattle.std.proofs.Common.{◌≡◌, true, false, List, [], ◌∷◌, ◌++◌, map, append-nil, refl, ap, ◌∙◌}
use Rattle.std.specs.List.{filter}
use Rattle.std.proofs.lemmas.List.{map-append}
use Rattle.std.proofs.lemmas.List.Elements.{filter-append}
use Rattle.lti_outside.specs.declared.pairs.Pair.{Pair}
use Rattle.lti_launch.specs.declared.fields.LaunchField.{LaunchField}
use Rattle.lti_launch.specs.Parameters.{values, is_named}

-- values stand in two lists as in each
pub values-append : (field : LaunchField) (xs ys : List Pair) → values field (xs ++ ys) ≡ values field xs ++ values field ys
unfolding values
values-append field xs ys =
    ap (map (λ (p : Pair). p.value)) (filter-append (is_named field) xs ys)
    ∙ map-append (λ (p : Pair). p.value) (filter (is_named field) xs) (filter (is_named field) ys)

-- a pair in front, of this name or another
pub first_named : (field : LaunchField) (pair : Pair) (pairs : List Pair) → is_named field pair ≡ true → values field (pair ∷ pairs) ≡ pair.value ∷ values field pairs
unfolding values
first_named field pair pairs is = rw is refl

pub first_other : (field : LaunchField) (pair : Pair) (pairs : List Pair) → is_named field pair ≡ false → values field (pair ∷ pairs) ≡ values field pairs
unfolding values
first_other field pair pairs is = rw is refl

-- one more pair, of this name or another
pub one_named : (field : LaunchField) (pairs : List Pair) (pair : Pair) → is_named field pair ≡ true → values field (pairs ++ pair ∷ []) ≡ values field pairs ++ pair.value ∷ []
unfolding values
one_named field pairs pair is = values-append field pairs (pair ∷ []) ∙ (rw is refl)

pub one_other : (field : LaunchField) (pairs : List Pair) (pair : Pair) → is_named field pair ≡ false → values field (pairs ++ pair ∷ []) ≡ values field pairs
unfolding values
one_other field pairs pair is = values-append field pairs (pair ∷ []) ∙ (rw is (append-nil (values field pairs)))
