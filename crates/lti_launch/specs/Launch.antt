-- A launch, its reading and its writing (LTI 1.1.1, section 3).
use Rattle.std.specs.Prelude.{◌≡◌, ℕ, true, List, [], ◌∷◌, ◌++◌, length, map, filter, Option, None, Some}
use Rattle.std.specs.List.{slice_index_or, list_all}
use Rattle.lti_outside.specs.declared.pairs.Pair.{Pair}
use Rattle.lti_launch.specs.declared.fields.LaunchField.{LaunchField}
use Rattle.lti_launch.specs.declared.fields.LaunchField.TheVariants.{LtiMessageType, LtiVersion, ResourceLinkId}
use Rattle.lti_launch.specs.Fields.{all_fields, name_of, place_of}
use Rattle.lti_launch.specs.Parameters.{value_in, is_custom, is_ext, is_rest}
use Rattle.lti_launch.specs.Faults.{fits}

-- the values of the parameters, in their order, and the pairs of other names
pub record LaunchValue : Type 0 where
  pub fields : List (Option (List ℕ))
  pub custom : List Pair
  pub ext : List Pair
  pub rest : List Pair

-- the launch that the pairs spell
abbrev pub launch_of : List Pair → LaunchValue
launch_of pairs = record {
  fields = map (value_in pairs) all_fields;
  custom = filter is_custom pairs;
  ext = filter is_ext pairs;
  rest = filter is_rest pairs;
}

-- the value of a parameter
abbrev pub value_of : LaunchValue → LaunchField → Option (List ℕ)
value_of launch field = slice_index_or launch.fields (place_of field) None

-- the parameters that have values, with these
abbrev pub field_pairs : List LaunchField → List (Option (List ℕ)) → List Pair
field_pairs (field ∷ fields) (Some value ∷ values) = record { name = name_of field; value = value } ∷ field_pairs fields values
field_pairs (field ∷ fields) (None ∷ values) = field_pairs fields values
field_pairs fields values = []

-- the pairs that a launch is written as
abbrev pub pairs_of : LaunchValue → List Pair
pairs_of launch = field_pairs all_fields launch.fields ++ launch.custom ++ launch.ext ++ launch.rest

-- the parameter has a value that it may have
abbrev pub IsRight : LaunchValue → LaunchField → Type 0
IsRight launch field = (value : List ℕ) × (value_of launch field ≡ Some value) × (fits field value ≡ true)

-- what holds of every launch: it has the values that it needs, and each pair stands where its name belongs
pub record IsLaunch (launch : LaunchValue) : Type 0 where
  pub count : length launch.fields ≡ 35
  pub kind : IsRight launch LtiMessageType
  pub version : IsRight launch LtiVersion
  pub link : IsRight launch ResourceLinkId
  pub custom : list_all is_custom launch.custom ≡ true
  pub ext : list_all is_ext launch.ext ≡ true
  pub rest : list_all is_rest launch.rest ≡ true
