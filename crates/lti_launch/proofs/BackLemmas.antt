-- What a launch writes is read as the same launch.
use Rattle.std.proofs.Common.{◌≡◌, ℕ, ◌==◌, nat_lt, Bool, true, false, not, ◌||◌, ◌&&◌, List, [], ◌∷◌, ◌++◌, length, map, bytes_eq, append-nil, refl, sym, ap, ◌∙◌, Option, Some, None, arith}
use Rattle.std.specs.List.{find, filter, list_any, list_all}
use Rattle.std.proofs.lemmas.List.Elements.{filter-append}
use Rattle.std.proofs.lemmas.Slice.Eq.{bytes_eq-Decides}
use Rattle.lti_outside.specs.declared.pairs.Pair.{Pair}
use Rattle.lti_outside.proofs.BoolLemmas.{and_split}
use Rattle.lti_launch.specs.declared.fields.LaunchField.{LaunchField}
use Rattle.lti_launch.specs.declared.fields.LaunchField.TheVariants.{LtiMessageType, LtiVersion, ResourceLinkId}
use Rattle.lti_launch.specs.Fields.{all_fields, name_of}
use Rattle.lti_launch.specs.Parameters.{values, only, value_in, is_named, is_field, is_custom, is_ext, is_oauth, is_rest}
use Rattle.lti_launch.specs.Faults.{fits, is_wrong, is_repeated}
use Rattle.lti_launch.specs.Launch.{LaunchValue, launch_of, value_of, field_pairs, pairs_of, IsRight, IsLaunch}
use Rattle.lti_launch.specs.Laws.{Spells}
use Rattle.lti_launch.proofs.NameLemmas.{is_plain, one_of_name}
use Rattle.lti_launch.proofs.PlaceLemmas.{map_kept}
use Rattle.lti_launch.proofs.ValueLemmas.{values-append, first_named, first_other}
use Rattle.lti_launch.proofs.KindLemmas.{custom_no_ext, custom_no_field, ext_no_field, field_no_rest, custom_no_rest, ext_no_rest}
use Rattle.lti_launch.proofs.LaunchLemmas.{faultless_join, value_stands, fails_alone, count_all}

-- one of the two parameters has the other one's name
abbrev meets : LaunchField → LaunchField → Bool
meets field other = bytes_eq (name_of field) (name_of other) || bytes_eq (name_of other) (name_of field)

-- no two parameters of the list have one name
abbrev are_apart : List LaunchField → Bool
are_apart [] = true
are_apart (field ∷ fields) = not (list_any (meets field) fields) && are_apart fields

all_apart : are_apart all_fields ≡ true
unfolding all_fields name_of
all_apart = refl

or_none : (a b : Bool) → (a || b) ≡ false → (a ≡ false) × (b ≡ false)
or_none true b is = absurd (cc)
or_none false b is = (refl, is)

not_true : (b : Bool) → not b ≡ true → b ≡ false
not_true true is = absurd (cc)
not_true false is = refl

own_name : (field : LaunchField) → bytes_eq (name_of field) (name_of field) ≡ true
own_name field = (bytes_eq-Decides (name_of field) (name_of field)).1 refl

abbrev pub pair_of : LaunchField → List ℕ → Pair
pair_of field value = record { name = name_of field; value = value }

abbrev listed : Option (List ℕ) → List (List ℕ)
listed (Some value) = value ∷ []
listed None = []

-- the values under each parameter's name, in pairs that begin with the parameters that have values
module _ (tail : List Pair) (free : (field : LaunchField) → values field tail ≡ []) where
  nothing_before : (field : LaunchField) (fields : List LaunchField) (vs : List (Option (List ℕ))) → list_any (meets field) fields ≡ false
      → values field (field_pairs fields vs ++ tail) ≡ []
  nothing_before field [] vs none = free field
  nothing_before field (other ∷ fields) [] none = free field
  nothing_before field (other ∷ fields) (None ∷ vs) none = nothing_before field fields vs (or_none (meets field other) (list_any (meets field) fields) none).1
  nothing_before field (other ∷ fields) (Some v ∷ vs) none =
      let parts = or_none (meets field other) (list_any (meets field) fields) none in
      let away = or_none (bytes_eq (name_of field) (name_of other)) (bytes_eq (name_of other) (name_of field)) parts.0 in
      first_other field (pair_of other v) (field_pairs fields vs ++ tail) away.0 ∙ nothing_before field fields vs parts.1

  values_listed : (fields : List LaunchField) (vs : List (Option (List ℕ))) → are_apart fields ≡ true → length fields ≡ length vs
      → map (λ field. values field (field_pairs fields vs ++ tail)) fields ≡ map listed vs
  values_listed [] [] apart long = refl
  values_listed [] (v ∷ vs) apart long = absurd (omega (arith, long))
  values_listed (field ∷ fields) [] apart long = absurd (omega (arith, long))
  values_listed (field ∷ fields) (None ∷ vs) apart long =
      let parts = and_split (not (list_any (meets field) fields)) (are_apart fields) apart in
      let none = not_true (list_any (meets field) fields) parts.0 in
      λ i. nothing_before field fields vs none i ∷ values_listed fields vs parts.1 (omega (arith, long)) i
  values_listed (field ∷ fields) (Some v ∷ vs) apart long =
      let parts = and_split (not (list_any (meets field) fields)) (are_apart fields) apart in
      let none = not_true (list_any (meets field) fields) parts.0 in
      let behind = field_pairs fields vs ++ tail in
      let first = first_named field (pair_of field v) behind (own_name field) ∙ ap (λ (others : List (List ℕ)). v ∷ others) (nothing_before field fields vs none) in
      let others =
      map_kept (meets field) (λ other. values other behind) (λ other. values other (pair_of field v ∷ behind))
      (λ other away. first_other other (pair_of field v) behind (or_none (bytes_eq (name_of field) (name_of other)) (bytes_eq (name_of other) (name_of field)) away).1) fields none
      ∙ values_listed fields vs parts.1 (omega (arith, long)) in
      λ i. first i ∷ others i

only_listed : (vs : List (Option (List ℕ))) → map only (map listed vs) ≡ vs
only_listed [] = refl
only_listed (None ∷ vs) = λ i. None ∷ only_listed vs i
only_listed (Some v ∷ vs) = λ i. Some v ∷ only_listed vs i

map_only : (pairs : List Pair) (fields : List LaunchField) → map (value_in pairs) fields ≡ map only (map (λ field. values field pairs) fields)
unfolding value_in
map_only pairs [] = refl
map_only pairs (field ∷ fields) = λ i. only (values field pairs) ∷ map_only pairs fields i

abbrev is_double : List (List ℕ) → Bool
is_double vs = nat_lt 1 (length vs)

none_listed : (vs : List (Option (List ℕ))) → list_any is_double (map listed vs) ≡ false
none_listed [] = refl
none_listed (None ∷ vs) = none_listed vs
none_listed (Some v ∷ vs) = none_listed vs

none_found : (pairs : List Pair) (fields : List LaunchField) → list_any is_double (map (λ field. values field pairs) fields) ≡ false → find (is_repeated pairs) fields ≡ None
none_found pairs [] none = refl
none_found pairs (field ∷ fields) none =
    let parts = or_none (is_double (values field pairs)) (list_any is_double (map (λ f. values f pairs) fields)) none in
    rw parts.0 (none_found pairs fields parts.1)

-- what holds of all that passes
filter_all : (t : Pair → Bool) (xs : List Pair) → list_all t xs ≡ true → filter t xs ≡ xs
filter_all t [] all = refl
filter_all t (x ∷ xs) all =
    let parts = and_split (t x) (list_all t xs) all in
    rw parts.0 (ap (λ (ys : List Pair). x ∷ ys) (filter_all t xs parts.1))

filter_none : (t k : Pair → Bool) → ((x : Pair) → k x ≡ true → t x ≡ false) → (xs : List Pair) → list_all k xs ≡ true → filter t xs ≡ []
filter_none t k away [] all = refl
filter_none t k away (x ∷ xs) all =
    let parts = and_split (k x) (list_all k xs) all in
    rw (away x parts.0) (filter_none t k away xs parts.1)

filter_fields : (t : Pair → Bool) → ((field : LaunchField) (v : List ℕ) → t (pair_of field v) ≡ false) → (fields : List LaunchField) (vs : List (Option (List ℕ))) → filter t (field_pairs fields vs) ≡ []
filter_fields t away [] vs = refl
filter_fields t away (field ∷ fields) [] = refl
filter_fields t away (field ∷ fields) (None ∷ vs) = filter_fields t away fields vs
filter_fields t away (field ∷ fields) (Some v ∷ vs) = rw (away field v) (filter_fields t away fields vs)

filter_four : (t : Pair → Bool) (a b c d : List Pair) → filter t (((a ++ b) ++ c) ++ d) ≡ ((filter t a ++ filter t b) ++ filter t c) ++ filter t d
filter_four t a b c d =
    filter-append t ((a ++ b) ++ c) d ∙ ap (λ xs. xs ++ filter t d) (filter-append t (a ++ b) c ∙ ap (λ xs. xs ++ filter t c) (filter-append t a b))

regroup : (a b c d : List Pair) → ((a ++ b) ++ c) ++ d ≡ a ++ ((b ++ c) ++ d)
regroup [] b c d = refl
regroup (x ∷ a) b c d = ap (λ (xs : List Pair). x ∷ xs) (regroup a b c d)

-- a pair of no parameter's name isn't this one's
not_named : (pair : Pair) (field : LaunchField) → is_field pair ≡ false → is_named field pair ≡ false
unfolding is_field
not_named pair field none = fails_alone (λ other. bytes_eq (name_of other) (name_of field)) (λ other. is_named other pair) all_fields field (one_of_name field) none

values_none : (k : Pair → Bool) → ((x : Pair) → k x ≡ true → is_field x ≡ false) → (field : LaunchField) (xs : List Pair) → list_all k xs ≡ true → values field xs ≡ []
unfolding values
values_none k away field xs all = ap (map (λ (p : Pair). p.value)) (filter_none (is_named field) k (λ x is. not_named x field (away x is)) xs all)

a_field : (field : LaunchField) (v : List ℕ) → is_field (pair_of field v) ≡ true
a_field field v = by (is_field (pair_of field v)) refl
  where
    by : (b : Bool) → is_field (pair_of field v) ≡ b → is_field (pair_of field v) ≡ true
    by true is = is
    by false is = absurd (grind (arith, own_name field, not_named (pair_of field v) field is))

field_no_custom : (field : LaunchField) (v : List ℕ) → is_custom (pair_of field v) ≡ false
unfolding is_custom
field_no_custom field v = (is_plain field).custom

field_no_ext : (field : LaunchField) (v : List ℕ) → is_ext (pair_of field v) ≡ false
unfolding is_ext
field_no_ext field v = (is_plain field).ext

ext_no_custom : (pair : Pair) → is_ext pair ≡ true → is_custom pair ≡ false
ext_no_custom pair is = by (is_custom pair) refl
  where
    by : (b : Bool) → is_custom pair ≡ b → is_custom pair ≡ false
    by true custom = absurd (grind (arith, is, custom_no_ext pair custom))
    by false custom = custom

-- a pair of another name is of no other kind
pub record IsOther (pair : Pair) : Type 0 where
  pub field : is_field pair ≡ false
  pub custom : is_custom pair ≡ false
  pub ext : is_ext pair ≡ false

rest_other : (pair : Pair) → is_rest pair ≡ true → IsOther pair
rest_other pair is = by (is_field pair) (is_custom pair) (is_ext pair) (is_oauth pair) refl refl refl is
  where
    by : (a b c d : Bool) → is_field pair ≡ a → is_custom pair ≡ b → is_ext pair ≡ c → not (a || b || c || d) ≡ true → IsOther pair
    by true b c d ka kb kc e = absurd (cc)
    by false true c d ka kb kc e = absurd (cc)
    by false false true d ka kb kc e = absurd (cc)
    by false false false d ka kb kc e = record { field = ka; custom = kb; ext = kc }

module _ (launch : LaunchValue) (is : IsLaunch launch) where
  abbrev tail : List Pair
  tail = (launch.custom ++ launch.ext) ++ launch.rest

  abbrev written : List Pair
  written = field_pairs all_fields launch.fields

  tail_free : (field : LaunchField) → values field tail ≡ []
  tail_free field =
      values-append field (launch.custom ++ launch.ext) launch.rest
      ∙ (λ i. (values-append field launch.custom launch.ext
      ∙ (λ j. values_none is_custom custom_no_field field launch.custom is.custom j ++ values_none is_ext ext_no_field field launch.ext is.ext j)) i
      ++ values_none is_rest (λ pair other. (rest_other pair other).field) field launch.rest is.rest i)

  values_back : map (λ field. values field (pairs_of launch)) all_fields ≡ map listed launch.fields
  values_back =
      ap (λ (pairs : List Pair). map (λ field. values field pairs) all_fields) (regroup written launch.custom launch.ext launch.rest)
      ∙ values_listed tail tail_free all_fields launch.fields all_apart (count_all ∙ sym is.count)

  fields_back : map (value_in (pairs_of launch)) all_fields ≡ launch.fields
  fields_back = map_only (pairs_of launch) all_fields ∙ ap (map only) values_back ∙ only_listed launch.fields

  custom_back : filter is_custom (pairs_of launch) ≡ launch.custom
  custom_back =
      filter_four is_custom written launch.custom launch.ext launch.rest
      ∙ (λ i. ((filter_fields is_custom field_no_custom all_fields launch.fields i ++ filter_all is_custom launch.custom is.custom i)
      ++ filter_none is_custom is_ext ext_no_custom launch.ext is.ext i) ++ filter_none is_custom is_rest (λ pair other. (rest_other pair other).custom) launch.rest is.rest i)
      ∙ append-nil (launch.custom ++ []) ∙ append-nil launch.custom

  ext_back : filter is_ext (pairs_of launch) ≡ launch.ext
  ext_back =
      filter_four is_ext written launch.custom launch.ext launch.rest
      ∙ (λ i. ((filter_fields is_ext field_no_ext all_fields launch.fields i ++ filter_none is_ext is_custom custom_no_ext launch.custom is.custom i)
      ++ filter_all is_ext launch.ext is.ext i) ++ filter_none is_ext is_rest (λ pair other. (rest_other pair other).ext) launch.rest is.rest i)
      ∙ append-nil launch.ext

  rest_back : filter is_rest (pairs_of launch) ≡ launch.rest
  rest_back =
      filter_four is_rest written launch.custom launch.ext launch.rest
      ∙ (λ i. ((filter_fields is_rest (λ field v. field_no_rest (pair_of field v) (a_field field v)) all_fields launch.fields i
      ++ filter_none is_rest is_custom custom_no_rest launch.custom is.custom i)
      ++ filter_none is_rest is_ext ext_no_rest launch.ext is.ext i) ++ filter_all is_rest launch.rest is.rest i)

  launch_back : launch_of (pairs_of launch) ≡ launch
  launch_back = λ i. record { fields = fields_back i; custom = custom_back i; ext = ext_back i; rest = rest_back i }

  right_back : (field : LaunchField) → IsRight launch field → is_wrong field (pairs_of launch) ≡ false
  unfolding value_in
  right_back field right =
      by (values field (pairs_of launch)) (sym (value_stands (pairs_of launch) field) ∙ ap (λ (l : LaunchValue). value_of l field) launch_back ∙ right.1)
    where
      by : (vs : List (List ℕ)) → only vs ≡ Some right.0 → (length vs == 0 || list_any (λ v. not (fits field v)) vs) ≡ false
      by [] e = absurd (cc)
      by (v ∷ []) e = let same : v ≡ right.0 = cc in rw (same, right.2) refl
      by (v ∷ w ∷ vs) e = absurd (cc)

  pub reads_back : Spells (pairs_of launch) launch
  reads_back = record {
    faultless = faultless_join (pairs_of launch) (record {
      kind = right_back LtiMessageType is.kind;
      version = right_back LtiVersion is.version;
      link = right_back ResourceLinkId is.link;
      single = none_found (pairs_of launch) all_fields (ap (list_any is_double) values_back ∙ none_listed launch.fields);
    });
    spelled = launch_back;
  }
