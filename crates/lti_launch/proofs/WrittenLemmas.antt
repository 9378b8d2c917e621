-- The parameters so far, as pairs.
use Rattle.std.proofs.Common.{◌≡◌, ℕ, ◌<◌, ◌+◌, List, [], ◌∷◌, ◌++◌, length, map, take, refl, sym, ap, ◌∙◌, Option, Some, None, slice_index_or, min, arith}
use Rattle.std.proofs.lemmas.List.{take_more, map-append, length-take, length-map}
use Rattle.lti_outside.specs.declared.pairs.Pair.{Pair}
use Rattle.lti_launch.specs.declared.fields.LaunchField.{LaunchField}
use Rattle.lti_launch.specs.declared.found.Found.{Found}
use Rattle.lti_launch.specs.Fields.{name_of}
use Rattle.lti_launch.specs.Found.{value_found}
use Rattle.lti_launch.specs.Launch.{field_pairs}

pairs-append : (fields : List LaunchField) (vs : List (Option (List ℕ))) (field : LaunchField) (v : Option (List ℕ)) → length fields ≡ length vs
    → field_pairs (fields ++ field ∷ []) (vs ++ v ∷ []) ≡ field_pairs fields vs ++ field_pairs (field ∷ []) (v ∷ [])
pairs-append [] [] field v long = refl
pairs-append [] (w ∷ vs) field v long = absurd (omega (arith, long))
pairs-append (f ∷ fields) [] field v long = absurd (omega (arith, long))
pairs-append (f ∷ fields) (None ∷ vs) field v long = pairs-append fields vs field v (omega (arith, long))
pairs-append (f ∷ fields) (Some w ∷ vs) field v long =
    ap (λ (pairs : List Pair). record { name = name_of f; value = w } ∷ pairs) (pairs-append fields vs field v (omega (arith, long)))

-- one more parameter was written
pub one_more : (fields : List LaunchField) (found : List Found) (place : ℕ) (old new : List Pair) (field : LaunchField) (here : Found) → length fields ≡ length found → place < length found
    → slice_index_or fields place field ≡ field → slice_index_or found place here ≡ here
    → old ≡ field_pairs (take place fields) (map value_found (take place found)) → new ≡ old ++ field_pairs (field ∷ []) (value_found here ∷ [])
    → new ≡ field_pairs (take (place + 1) fields) (map value_found (take (place + 1) found))
one_more fields found place old new field here long below at_field at_found before is =
    let front = take place fields in
    let values = map value_found (take place found) in
    let more_fields : take (place + 1) fields ≡ front ++ field ∷ [] = take_more fields place field (omega (arith, long, below)) ∙ ap (λ (f : LaunchField). front ++ f ∷ []) at_field in
    let more_values : map value_found (take (place + 1) found) ≡ values ++ value_found here ∷ [] =
    ap (map value_found) (take_more found place here below ∙ ap (λ (f : Found). take place found ++ f ∷ []) at_found)
    ∙ map-append value_found (take place found) (here ∷ []) in
    is ∙ ap (λ pairs. pairs ++ field_pairs (field ∷ []) (value_found here ∷ [])) before
    ∙ sym (pairs-append front values field (value_found here)
    (length-take place fields ∙ ap (min place) long ∙ sym (length-take place found) ∙ sym (length-map (take place found) value_found)))
    ∙ sym (λ i. field_pairs (more_fields i) (more_values i))
