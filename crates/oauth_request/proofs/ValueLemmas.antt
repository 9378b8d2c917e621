-- The values that stand under a name.
use Rattle.std.proofs.Common.{◌≡◌, ℕ, Bool, true, false, cond, List, [], ◌∷◌, ◌++◌, map, bytes_eq, append-nil, refl, ap, ◌∙◌}
use Rattle.std.specs.List.{filter}
use Rattle.std.proofs.lemmas.List.{map-append}
use Rattle.std.proofs.lemmas.List.Elements.{filter-append}
use Rattle.lti_outside.specs.declared.pairs.Pair.{Pair}
use Rattle.oauth_request.specs.Protocol.{values}

last : (named : Bool) (front : List (List ℕ)) (pair : Pair) → front ++ map (λ (p : Pair). p.value) (cond named (pair ∷ []) []) ≡ cond named (front ++ pair.value ∷ []) front
last true front pair = refl
last false front pair = append-nil front

-- one more pair
pub values-push : (name : List ℕ) (pairs : List Pair) (pair : Pair) → values name (pairs ++ pair ∷ []) ≡ cond (bytes_eq pair.name name) (values name pairs ++ pair.value ∷ []) (values name pairs)
unfolding values
values-push name pairs pair =
    ap (map (λ (p : Pair). p.value)) (filter-append (λ (p : Pair). bytes_eq p.name name) pairs (pair ∷ []))
    ∙ map-append (λ (p : Pair). p.value) (filter (λ (p : Pair). bytes_eq p.name name) pairs) (filter (λ (p : Pair). bytes_eq p.name name) (pair ∷ []))
    ∙ last (bytes_eq pair.name name) (values name pairs) pair
