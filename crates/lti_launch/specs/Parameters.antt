-- What stands in the pairs of a launch under the names of its parameters (LTI 1.1.1, section 3), and the pairs of other
-- names.
use Rattle.std.specs.Prelude.{ℕ, Bool, not, ◌||◌, nat_eq, List, [], ◌∷◌, map, filter, codes, bytes_eq, Option, None, Some}
use Rattle.std.specs.List.{list_any, starts_with}
use Rattle.lti_outside.specs.declared.pairs.Pair.{Pair}
use Rattle.lti_launch.specs.declared.fields.LaunchField.{LaunchField}
use Rattle.lti_launch.specs.Fields.{all_fields, name_of}

-- the pair has the parameter's name
abbrev pub is_named : LaunchField → Pair → Bool
is_named field pair = bytes_eq (name_of field) pair.name

-- the values that stand under the parameter's name, in order
unfoldable pub values : LaunchField → List Pair → List (List ℕ)
values field pairs = map (λ pair. pair.value) (filter (is_named field) pairs)

-- the value of a list of one
abbrev pub only : List (List ℕ) → Option (List ℕ)
only (value ∷ []) = Some value
only others = None

-- the parameter's value: present where its name stands once
unfoldable pub value_in : List Pair → LaunchField → Option (List ℕ)
value_in pairs field = only (values field pairs)

-- the pair has the name of a parameter of the standard
unfoldable pub is_field : Pair → Bool
is_field pair = list_any (λ field. is_named field pair) all_fields

-- the name begins with this text
abbrev pub has_prefix : List ℕ → Pair → Bool
has_prefix text pair = starts_with nat_eq pair.name text

-- a custom parameter, an extension, and a parameter of the signature (LTI 1.1.1, section 4.2)
unfoldable pub is_custom : Pair → Bool
is_custom = has_prefix (codes "custom_")

unfoldable pub is_ext : Pair → Bool
is_ext = has_prefix (codes "ext_")

unfoldable pub is_oauth : Pair → Bool
is_oauth = has_prefix (codes "oauth_")

-- any other pair
abbrev pub is_rest : Pair → Bool
is_rest pair = not (is_field pair || is_custom pair || is_ext pair || is_oauth pair)
