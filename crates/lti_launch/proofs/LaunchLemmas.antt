-- What was sorted, where the pairs have no fault, is the launch that they spell.
use Rattle.std.proofs.Common.{◌≡◌, ℕ, ◌==◌, nat_lt, Bool, true, false, not, ◌||◌, cond, List, [], ◌∷◌, length, map, bytes_eq, refl, sym, ap, ◌∙◌, Option, Some, None, arith}
use Rattle.std.specs.Option.{option_map}
use Rattle.std.specs.List.{find, filter, list_any, list_all}
use Rattle.std.proofs.lemmas.Bool.Decides.{nat_tests}
use Rattle.std.proofs.lemmas.List.{length-map}
use Rattle.lti_outside.specs.declared.pairs.Pair.{Pair}
use Rattle.lti_launch.specs.declared.fields.LaunchField.{LaunchField}
use Rattle.lti_launch.specs.declared.fields.LaunchField.TheVariants.{LtiMessageType, LtiVersion, ResourceLinkId}
use Rattle.lti_launch.specs.declared.fault.LaunchFault.TheVariants.{WrongType, WrongVersion, Missing, Repeated}
use Rattle.lti_launch.specs.declared.sorted.Sorted.{Sorted}
use Rattle.lti_launch.specs.Fields.{all_fields, name_of, place_of}
use Rattle.lti_launch.specs.Parameters.{values, only, value_in, is_custom, is_ext, is_rest}
use Rattle.lti_launch.specs.Faults.{fits, is_wrong, is_repeated, fault_of}
use Rattle.lti_launch.specs.Found.{found_of, found_in, value_found, AreSorted}
use Rattle.lti_launch.specs.Launch.{LaunchValue, launch_of, value_of, IsRight, IsLaunch}
use Rattle.lti_launch.proofs.NameLemmas.{one_of_name}
use Rattle.lti_launch.proofs.PlaceLemmas.{at_place, find_nowhere}

-- the value that was found is the parameter's
found_value : (pairs : List Pair) (field : LaunchField) → value_found (found_in pairs field) ≡ value_in pairs field
unfolding value_in
found_value pairs field = by (values field pairs)
  where
    by : (vs : List (List ℕ)) → value_found (found_of field vs) ≡ only vs
    by [] = refl
    by (v ∷ []) = refl
    by (v ∷ w ∷ vs) = refl

values_found : (pairs : List Pair) (fields : List LaunchField) → map value_found (map (found_in pairs) fields) ≡ map (value_in pairs) fields
values_found pairs [] = refl
values_found pairs (field ∷ fields) = λ i. found_value pairs field i ∷ values_found pairs fields i

pub sorted_launch : (sorted : Sorted) (pairs : List Pair) → AreSorted sorted pairs
    → ◌≡◌ {A = LaunchValue} (record { fields = map value_found sorted.found.items; custom = sorted.custom; ext = sorted.ext; rest = sorted.rest }) (launch_of pairs)
sorted_launch sorted pairs are = λ i. record {
  fields = (ap (map value_found) are.found ∙ values_found pairs all_fields) i;
  custom = are.custom i;
  ext = are.ext i;
  rest = are.rest i;
}

-- what pairs without a fault have
pub record AreFaultless (pairs : List Pair) : Type 0 where
  pub kind : is_wrong LtiMessageType pairs ≡ false
  pub version : is_wrong LtiVersion pairs ≡ false
  pub link : is_wrong ResourceLinkId pairs ≡ false
  pub single : find (is_repeated pairs) all_fields ≡ None

pub faultless_parts : (pairs : List Pair) → fault_of pairs ≡ None → AreFaultless pairs
faultless_parts pairs is = by (is_wrong LtiMessageType pairs) (is_wrong LtiVersion pairs) (is_wrong ResourceLinkId pairs) (find (is_repeated pairs) all_fields) refl refl refl refl is
  where
    by : (a b c : Bool) (d : Option LaunchField) → is_wrong LtiMessageType pairs ≡ a → is_wrong LtiVersion pairs ≡ b → is_wrong ResourceLinkId pairs ≡ c → find (is_repeated pairs) all_fields ≡ d
        → cond a (Some WrongType) (cond b (Some WrongVersion) (cond c (Some Missing) (option_map Repeated d))) ≡ None → AreFaultless pairs
    by true b c d ka kb kc kd e = absurd (cc)
    by false true c d ka kb kc kd e = absurd (cc)
    by false false true d ka kb kc kd e = absurd (cc)
    by false false false (Some field) ka kb kc kd e = absurd (cc)
    by false false false None ka kb kc kd e = record { kind = ka; version = kb; link = kc; single = kd }

pub faultless_join : (pairs : List Pair) → AreFaultless pairs → fault_of pairs ≡ None
faultless_join pairs are = rw (are.kind, are.version, are.link, are.single) refl

-- the element that is alone fails a test that no element passes
pub fails_alone : {X : Type 0} (s t : X → Bool) (xs : List X) (x : X) → filter s xs ≡ x ∷ [] → list_any t xs ≡ false → t x ≡ false
fails_alone s t [] x one none = absurd (cc)
fails_alone s t (y ∷ xs) x one none = by (s y) (t y) refl one none (fails_alone s t xs x)
  where
    by : (b c : Bool) → t y ≡ c → cond b (y ∷ filter s xs) (filter s xs) ≡ x ∷ [] → (c || list_any t xs) ≡ false
        → (filter s xs ≡ x ∷ [] → list_any t xs ≡ false → t x ≡ false) → t x ≡ false
    by b true test o n more = absurd (cc)
    by true false test o n more = let same : y ≡ x = cc in ap t (sym same) ∙ test
    by false false test o n more = more o n

pub stands_once : (pairs : List Pair) (field : LaunchField) → AreFaultless pairs → is_repeated pairs field ≡ false
stands_once pairs field are =
    fails_alone (λ other. bytes_eq (name_of other) (name_of field)) (is_repeated pairs) all_fields field (one_of_name field)
    (find_nowhere (is_repeated pairs) all_fields are.single)

-- a parameter that isn't wrong and stands once has a value that it may have
right : (pairs : List Pair) (field : LaunchField) → is_wrong field pairs ≡ false → is_repeated pairs field ≡ false
    → (value : List ℕ) × (value_in pairs field ≡ Some value) × (fits field value ≡ true)
unfolding value_in
right pairs field = by (values field pairs)
  where
    fit : (b : Bool) → (not b || false) ≡ false → b ≡ true
    fit true e = refl
    fit false e = absurd (cc)

    by : (vs : List (List ℕ)) → (length vs == 0 || list_any (λ v. not (fits field v)) vs) ≡ false → nat_lt 1 (length vs) ≡ false
        → (value : List ℕ) × (only vs ≡ Some value) × (fits field value ≡ true)
    by [] wrong twice = absurd (cc)
    by (v ∷ []) wrong twice = (v, refl, fit (fits field v) wrong)
    by (v ∷ w ∷ vs) wrong twice = absurd (grind (arith, nat_tests, twice))

pub value_stands : (pairs : List Pair) (field : LaunchField) → value_of (launch_of pairs) field ≡ value_in pairs field
unfolding place_of
value_stands pairs field = at_place (λ other. bytes_eq (name_of other) (name_of field)) (value_in pairs) None all_fields field (one_of_name field)

is_right : (pairs : List Pair) (field : LaunchField) → AreFaultless pairs → is_wrong field pairs ≡ false → IsRight (launch_of pairs) field
is_right pairs field are fine =
    let found = right pairs field fine (stands_once pairs field are) in
    (found.0, value_stands pairs field ∙ found.1, found.2)

all_pass : {X : Type 0} (t : X → Bool) (xs : List X) → list_all t (filter t xs) ≡ true
all_pass t [] = refl
all_pass t (x ∷ xs) = by (t x) refl (all_pass t xs)
  where
    by : (b : Bool) → t x ≡ b → list_all t (filter t xs) ≡ true → list_all t (cond b (x ∷ filter t xs) (filter t xs)) ≡ true
    by true here more = rw here more
    by false here more = more

pub count_all : length all_fields ≡ 35
unfolding all_fields
count_all = refl

-- the launch that pairs without a fault spell is a launch
pub is_launch : (pairs : List Pair) → fault_of pairs ≡ None → IsLaunch (launch_of pairs)
is_launch pairs faultless =
    let are = faultless_parts pairs faultless in
    record {
      count = length-map all_fields (value_in pairs) ∙ count_all;
      kind = is_right pairs LtiMessageType are are.kind;
      version = is_right pairs LtiVersion are are.version;
      link = is_right pairs ResourceLinkId are are.link;
      custom = all_pass is_custom pairs;
      ext = all_pass is_ext pairs;
      rest = all_pass is_rest pairs;
    }
