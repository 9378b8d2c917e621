-- One more pair, sorted.
use Rattle.std.proofs.Common.{◌≡◌, ℕ, Bool, true, false, List, [], ◌∷◌, ◌++◌, map, bytes_eq, append-nil, refl, sym, ap, ◌∙◌, subst, slice_set, slice_index_or}
use Rattle.std.specs.List.{filter}
use Rattle.std.proofs.lemmas.List.Elements.{filter-append}
use Rattle.std.proofs.lemmas.Slice.Eq.{bytes_eq-Decides}
use Rattle.lti_outside.specs.declared.pairs.Pair.{Pair}
use Rattle.lti_launch.specs.declared.fields.LaunchField.{LaunchField}
use Rattle.lti_launch.specs.declared.found.Found.{Found}
use Rattle.lti_launch.specs.Fields.{all_fields, name_of, place_of}
use Rattle.lti_launch.specs.Parameters.{values, is_named, is_field}
use Rattle.lti_launch.specs.Found.{found_of, found_in}
use Rattle.lti_launch.proofs.NameLemmas.{one_of_name}
use Rattle.lti_launch.proofs.PlaceLemmas.{map_kept, map_set, at_place}
use Rattle.lti_launch.proofs.ValueLemmas.{one_named, one_other}

pub filter_kept : (t : Pair → Bool) (pairs : List Pair) (pair : Pair) → t pair ≡ false → filter t (pairs ++ pair ∷ []) ≡ filter t pairs
filter_kept t pairs pair is = filter-append t pairs (pair ∷ []) ∙ (rw is (append-nil (filter t pairs)))

pub filter_added : (t : Pair → Bool) (pairs : List Pair) (pair : Pair) → t pair ≡ true → filter t (pairs ++ pair ∷ []) ≡ filter t pairs ++ pair ∷ []
filter_added t pairs pair is = filter-append t pairs (pair ∷ []) ∙ (rw is refl)

-- what is found at a parameter's place
pub found_place : (pairs : List Pair) (field : LaunchField) (other : Found) → slice_index_or (map (found_in pairs) all_fields) (place_of field) other ≡ found_in pairs field
unfolding place_of
found_place pairs field other = at_place (λ f. bytes_eq (name_of f) (name_of field)) (found_in pairs) other all_fields field (one_of_name field)

module _ (pairs : List Pair) (pair : Pair) where
  -- a pair of another name changes nothing of what is found
  pub found_kept : is_field pair ≡ false → map (found_in (pairs ++ pair ∷ [])) all_fields ≡ map (found_in pairs) all_fields
  unfolding is_field
  found_kept is =
      map_kept (λ field. is_named field pair) (found_in pairs) (found_in (pairs ++ pair ∷ [])) (λ field other. ap (found_of field) (one_other field pairs pair other)) all_fields is

  -- a parameter changes what is found at its place
  pub found_set : (field : LaunchField) → is_named field pair ≡ true
      → map (found_in (pairs ++ pair ∷ [])) all_fields ≡ slice_set (map (found_in pairs) all_fields) (place_of field) (found_in (pairs ++ pair ∷ []) field)
  unfolding place_of
  found_set field is =
      let same : name_of field ≡ pair.name = (bytes_eq-Decides (name_of field) pair.name).0 is in
      map_set (λ f. bytes_eq (name_of f) (name_of field)) (found_in pairs) (found_in (pairs ++ pair ∷ []))
      (λ f other. ap (found_of f) (one_other f pairs pair (subst (λ (name : List ℕ). bytes_eq (name_of f) name ≡ false) same other))) all_fields field (one_of_name field)

  -- a pair that passes is added to those that pass
  pub filter_pushed : (t : Pair → Bool) (old new : List Pair) (copy : Pair) → t pair ≡ true → copy ≡ pair → old ≡ filter t pairs → new ≡ old ++ copy ∷ [] → new ≡ filter t (pairs ++ pair ∷ [])
  filter_pushed t old new copy is copied before pushed =
      pushed ∙ (λ i. before i ++ copied i ∷ []) ∙ sym (filter_added t pairs pair is)

  -- a value is added to what was found at the parameter's place
  pub found_pushed : (field : LaunchField) (place : ℕ) (value : List ℕ) (old new : List Found) (before after : Found) → is_named field pair ≡ true → place ≡ place_of field → value ≡ pair.value
      → old ≡ map (found_in pairs) all_fields → before ≡ slice_index_or old place before → new ≡ slice_set old place after
      → ((values : List (List ℕ)) → before ≡ found_of field values → after ≡ found_of field (values ++ value ∷ []))
      → new ≡ map (found_in (pairs ++ pair ∷ [])) all_fields
  found_pushed field place value old new before after named at is sorted here set says =
      let stood : before ≡ found_in pairs field = here ∙ (λ i. slice_index_or (sorted i) (at i) before) ∙ found_place pairs field before in
      let stands : after ≡ found_in (pairs ++ pair ∷ []) field =
      says (values field pairs) stood ∙ ap (λ (v : List ℕ). found_of field (values field pairs ++ v ∷ [])) is ∙ ap (found_of field) (sym (one_named field pairs pair named)) in
      set ∙ (λ i. slice_set (sorted i) (at i) (stands i)) ∙ sym (found_set field named)
