-- A pair is of one kind.
use Rattle.std.proofs.Common.{◌≡◌, ℕ, nat_eq, Bool, true, false, not, ◌||◌, ◌&&◌, List, [], ◌∷◌, codes, bytes_eq, refl, sym, ap, arith, Option, Some, None}
use Rattle.std.specs.Prelude.{MatchOption}
use Rattle.std.specs.List.{find, starts_with}
use Rattle.std.proofs.lemmas.Bool.Decides.{nat_tests}
use Rattle.std.proofs.lemmas.Slice.Eq.{bytes_eq-Decides}
use Rattle.lti_outside.specs.declared.pairs.Pair.{Pair}
use Rattle.lti_outside.proofs.BoolLemmas.{and_split}
use Rattle.lti_launch.specs.declared.fields.LaunchField.{LaunchField}
use Rattle.lti_launch.specs.Fields.{all_fields, name_of}
use Rattle.lti_launch.specs.Parameters.{is_named, is_field, has_prefix, is_custom, is_ext, is_oauth, is_rest}
use Rattle.lti_launch.proofs.NameLemmas.{is_plain}
use Rattle.lti_launch.proofs.PlaceLemmas.{any_none, find_nowhere, find_some, find_passes}

first_is : (c d : ℕ) (more : Bool) → (nat_eq c d && more) ≡ true → d ≡ c
first_is c d more is = let both = and_split (nat_eq c d) more is in grind (arith, nat_tests, both.0)

other_first : (name : List ℕ) → starts_with nat_eq name (codes "custom_") ≡ true → starts_with nat_eq name (codes "ext_") ≡ false
other_first [] is = absurd (cc)
other_first (c ∷ name) is = let same : c ≡ 99 = first_is 99 c _ is in rw same refl

pub custom_no_ext : (pair : Pair) → is_custom pair ≡ true → is_ext pair ≡ false
unfolding is_custom is_ext
custom_no_ext pair is = other_first pair.name is

no_field : (prefix : List ℕ) → ((field : LaunchField) → starts_with nat_eq (name_of field) prefix ≡ false) → (pair : Pair) → has_prefix prefix pair ≡ true → is_field pair ≡ false
unfolding is_field
no_field prefix plain pair is = any_none (λ field. is_named field pair) (λ field. by field (is_named field pair) refl) all_fields
  where
    by : (field : LaunchField) (named : Bool) → is_named field pair ≡ named → is_named field pair ≡ false
    by field true test =
        let same : name_of field ≡ pair.name = (bytes_eq-Decides (name_of field) pair.name).0 test in
        absurd (grind (arith, plain field, is, ap (λ name. starts_with nat_eq name prefix) same))
    by field false test = test

pub custom_no_field : (pair : Pair) → is_custom pair ≡ true → is_field pair ≡ false
unfolding is_custom
custom_no_field pair is = no_field (codes "custom_") (λ field. (is_plain field).custom) pair is

pub ext_no_field : (pair : Pair) → is_ext pair ≡ true → is_field pair ≡ false
unfolding is_ext
ext_no_field pair is = no_field (codes "ext_") (λ field. (is_plain field).ext) pair is

abbrev pub IsFieldOf : Pair → Option LaunchField → Type 0
IsFieldOf pair found = MatchOption found (is_field pair ≡ false) (λ field. (is_field pair ≡ true) × (is_named field pair ≡ true))

-- what is found by its name is a parameter, and what isn't found is none
pub found_by_name : (pair : Pair) (found : Option LaunchField) → found ≡ find (λ field. bytes_eq (name_of field) pair.name) all_fields → IsFieldOf pair found
unfolding is_field
found_by_name pair None is = find_nowhere (λ field. is_named field pair) all_fields (sym is)
found_by_name pair (Some field) is =
    (find_some (λ field. is_named field pair) all_fields field (sym is), find_passes (λ field. is_named field pair) all_fields field (sym is))

-- a pair of another kind isn't among the others
module _ (pair : Pair) where
  pub field_no_rest : is_field pair ≡ true → is_rest pair ≡ false
  field_no_rest is = by (is_field pair) (is_custom pair) (is_ext pair) (is_oauth pair) is
    where
      by : (a b c d : Bool) → a ≡ true → not (a || b || c || d) ≡ false
      by true b c d e = refl
      by false b c d e = absurd (cc)

  pub custom_no_rest : is_custom pair ≡ true → is_rest pair ≡ false
  custom_no_rest is = by (is_field pair) (is_custom pair) (is_ext pair) (is_oauth pair) is
    where
      by : (a b c d : Bool) → b ≡ true → not (a || b || c || d) ≡ false
      by true true c d e = refl
      by false true c d e = refl
      by a false c d e = absurd (cc)

  pub ext_no_rest : is_ext pair ≡ true → is_rest pair ≡ false
  ext_no_rest is = by (is_field pair) (is_custom pair) (is_ext pair) (is_oauth pair) is
    where
      by : (a b c d : Bool) → c ≡ true → not (a || b || c || d) ≡ false
      by true b true d e = refl
      by false true true d e = refl
      by false false true d e = refl
      by a b false d e = absurd (cc)

  pub oauth_no_rest : is_oauth pair ≡ true → is_rest pair ≡ false
  oauth_no_rest is = by (is_field pair) (is_custom pair) (is_ext pair) (is_oauth pair) is
    where
      by : (a b c d : Bool) → d ≡ true → not (a || b || c || d) ≡ false
      by true b c true e = refl
      by false true c true e = refl
      by false false true true e = refl
      by false false false true e = refl
      by a b c false e = absurd (cc)

  pub other_rest : is_field pair ≡ false → is_custom pair ≡ false → is_ext pair ≡ false → is_oauth pair ≡ false → is_rest pair ≡ true
  other_rest field custom ext oauth = rw (field, custom, ext, oauth) refl
