-- What was found under the names of a launch's parameters, and beside them.
use Rattle.std.specs.Prelude.{◌≡◌, ℕ, Bool, true, false, not, List, [], ◌∷◌, map, filter, Option, None, Some}
use Rattle.std.specs.List.{list_all}
use Rattle.lti_outside.specs.declared.pairs.Pair.{Pair}
use Rattle.lti_launch.specs.declared.fields.LaunchField.{LaunchField}
use Rattle.lti_launch.specs.declared.found.Found.{Found}
use Rattle.lti_launch.specs.declared.found.Found.TheVariants.{Absent, Once, Repeated}
use Rattle.lti_launch.specs.declared.sorted.Sorted.{Sorted}
use Rattle.lti_launch.specs.Fields.{all_fields}
use Rattle.lti_launch.specs.Parameters.{values, is_custom, is_ext, is_rest}
use Rattle.lti_launch.specs.Faults.{fits}

-- what is found where these values stand
abbrev pub found_of : LaunchField → List (List ℕ) → Found
found_of field [] = Absent
found_of field (value ∷ []) = Once value
found_of field (value ∷ other ∷ values) = Repeated (list_all (fits field) (value ∷ other ∷ values))

-- the value that was found, if one was
abbrev pub value_found : Found → Option (List ℕ)
value_found (Once value) = Some value
value_found other = None

-- two values or more were found
abbrev pub is_repeat : Found → Bool
is_repeat (Repeated fit) = true
is_repeat other = false

-- no value was found, or one that the parameter may not have
abbrev pub is_unfit : LaunchField → Found → Bool
is_unfit field Absent = true
is_unfit field (Once value) = not (fits field value)
is_unfit field (Repeated fit) = not fit

-- what is found in pairs, for each parameter
abbrev pub found_in : List Pair → LaunchField → Found
found_in pairs field = found_of field (values field pairs)

-- the pairs were sorted so
pub record AreSorted (sorted : Sorted) (pairs : List Pair) : Type 0 where
  pub found : sorted.found.items ≡ map (found_in pairs) all_fields
  pub custom : sorted.custom ≡ filter is_custom pairs
  pub ext : sorted.ext ≡ filter is_ext pairs
  pub rest : sorted.rest ≡ filter is_rest pairs
