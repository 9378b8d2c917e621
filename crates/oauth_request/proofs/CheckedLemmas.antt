-- Which requests are well signed, and the one fault of any other.
use Rattle.std.proofs.Common.{◌≡◌, ◌≢◌, ℕ, ◌<◌, ◌≤◌, ◌^◌, Bool, true, false, not, ◌&&◌, ◌==◌, cond, List, [], ◌∷◌, ◌++◌, length, refl, sym, ap, ◌∙◌, subst, arith, Option, Some}
use Rattle.std.specs.List.{list_all}
use Rattle.std.specs.Str.Parse.{digits_value}
use Rattle.std.proofs.lemmas.Bool.{or_parts}
use Rattle.std.proofs.lemmas.Bool.Decides.{nat_tests}
use Rattle.std.proofs.lemmas.List.{take_all}
use Rattle.std.proofs.lemmas.List.Folds.{list_all-append}
use Rattle.lti_outside.specs.declared.pairs.Pair.{Pair}
use Rattle.lti_outside.specs.Decimal.{is_decimal}
use Rattle.lti_outside.proofs.DigitLemmas.{digits_small, decimal_parts}
use Rattle.lti_outside.proofs.BoolLemmas.{and_split}
use Rattle.http_wire.specs.Message.{RequestParts}
use Rattle.oauth_request.specs.Protocol.{IsTimestamp}
use Rattle.oauth_request.specs.Secret.{secret_in}
use Rattle.http_wire.specs.Conditions.{Condition, first_fault}
use Rattle.oauth_request.specs.Conditions.{IsFirstOf, duplicate_conditions, missing_conditions, text_conditions, credential_conditions}
use Rattle.oauth_request.specs.Checked.{Terms, IsReadable, IsSigned, IsSignedBy, IsAuthFault, conditions_of, conditions, is_form, all_pairs}
use Rattle.oauth_request.specs.Given.{AreCredentials}
use Rattle.oauth_request.specs.Reading.{IsReadingFault}
use Rattle.oauth_request.specs.declared.credentials.Credentials.{Credentials}
use Rattle.oauth_request.specs.declared.faults.AuthFault.{AuthFault}
use Rattle.oauth_request.specs.declared.faults.AuthFault.TheVariants.{BadAuthorization, BadForm, SignatureMismatch, NoMemory}

pub reading_failed : (terms : Terms) (q : RequestParts) (fault : AuthFault) → IsReadingFault q fault → IsAuthFault terms q fault
reading_failed terms q (BadAuthorization at) is = is
reading_failed terms q BadForm is = is
reading_failed terms q NoMemory is = tt
reading_failed terms q fault is = absurd is

-- a fault of the parameters, and none of their reading or of the signature
abbrev is_of_parameters : AuthFault → Bool
is_of_parameters (BadAuthorization at) = false
is_of_parameters BadForm = false
is_of_parameters SignatureMismatch = false
is_of_parameters NoMemory = false
is_of_parameters fault = true

abbrev tests : Condition AuthFault → Bool
tests c = is_of_parameters c.fault

kind_by : (holds : Bool) (here : AuthFault) (later : Option AuthFault) (fault : AuthFault) → is_of_parameters here ≡ true
    → (later ≡ Some fault → is_of_parameters fault ≡ true) → cond holds (Some here) later ≡ Some fault → is_of_parameters fault ≡ true
kind_by true here later fault so more is = let same : here ≡ fault = cc in subst (λ (f : AuthFault). is_of_parameters f ≡ true) same so
kind_by false here later fault so more is = more is

first_kind : (cs : List (Condition AuthFault)) (fault : AuthFault) → list_all tests cs ≡ true → first_fault cs ≡ Some fault → is_of_parameters fault ≡ true
first_kind [] fault all is = absurd (cc)
first_kind (c ∷ cs) fault all is =
    let both = and_split (tests c) (list_all tests cs) all in
    kind_by c.holds c.fault (first_fault cs) fault both.0 (first_kind cs fault both.1) is

all-doubles : (pairs : List Pair) → list_all tests (duplicate_conditions pairs) ≡ true
unfolding duplicate_conditions
all-doubles pairs = refl

all-gaps : (form : Bool) (pairs : List Pair) → list_all tests (missing_conditions form pairs) ≡ true
unfolding missing_conditions
all-gaps true pairs = refl
all-gaps false pairs = refl

all-texts : (field_limit : ℕ) (pairs : List Pair) → list_all tests (text_conditions field_limit pairs) ≡ true
unfolding text_conditions
all-texts field_limit pairs = refl

all-trust : (keys : List Pair) (form : Bool) (body : List ℕ) (pairs : List Pair) → list_all tests (credential_conditions keys form body pairs) ≡ true
unfolding credential_conditions
all-trust keys form body pairs = refl

both_all : (cs ds : List (Condition AuthFault)) → list_all tests cs ≡ true → list_all tests ds ≡ true → list_all tests (cs ++ ds) ≡ true
both_all cs ds one other = list_all-append tests cs ds ∙ (λ i. one i && other i)

all-conditions : (keys : List Pair) (field_limit : ℕ) (form : Bool) (body : List ℕ) (pairs : List Pair) → list_all tests (conditions_of keys field_limit form body pairs) ≡ true
unfolding conditions_of
all-conditions keys field_limit form body pairs =
    let d = duplicate_conditions pairs in
    let g = missing_conditions form pairs in
    let t = text_conditions field_limit pairs in
    both_all (d ++ g ++ t) (credential_conditions keys form body pairs) (both_all (d ++ g) t (both_all d g (all-doubles pairs) (all-gaps form pairs)) (all-texts field_limit pairs)) (all-trust keys form body pairs)

module _ (terms : Terms) (q : RequestParts) (readable : IsReadable q) where
  by_kind : (fault : AuthFault) → is_of_parameters fault ≡ true → first_fault (conditions terms q) ≡ Some fault → IsAuthFault terms q fault
  by_kind (BadAuthorization at) so is = absurd (cc)
  by_kind BadForm so is = absurd (cc)
  by_kind SignatureMismatch so is = absurd (cc)
  by_kind NoMemory so is = tt
  by_kind fault so is = (readable, is)

  pub parameters_failed : (fault : AuthFault) → IsFirstOf (conditions terms q) fault → IsAuthFault terms q fault
  parameters_failed NoMemory is = tt
  parameters_failed fault is = by_kind fault (first_kind (conditions terms q) fault (all-conditions terms.keys terms.field (is_form q) q.body (all_pairs q)) is) is

only : (x y : List ℕ) → x ∷ [] ≡ y ∷ [] → x ≡ y
only x y is = cc

some_only : (x y : List ℕ) → Some x ≡ Some y → x ≡ y
some_only x y is = cc

-- another text than the signature was sent
pub not_signed : (terms : Terms) (q : RequestParts) (field_limit : ℕ) (given : Credentials) → AreCredentials terms.keys field_limit (all_pairs q) given
    → (¬ IsSignedBy terms q given.secret.now given.signature) → ¬ IsSigned terms q
not_signed terms q field_limit given are wrong signed =
    let key = only signed.key given.key (sym signed.key_is ∙ are.key) in
    let text = only signed.text given.signature (sym signed.text_is ∙ are.signature) in
    let secret = some_only signed.secret given.secret.now (sym signed.secret_is ∙ ap (secret_in terms.keys) key ∙ are.secret) in
    wrong (subst (λ (t : List ℕ). IsSignedBy terms q given.secret.now t) text (subst (λ (s : List ℕ). IsSignedBy terms q s signed.text) secret signed.signature))

-- the number of a timestamp is in range
pub timestamp_range : (text : List ℕ) (timestamp : ℕ) → IsTimestamp text timestamp → (0 < timestamp) × (timestamp ≤ 999999999999999)
timestamp_range text timestamp is =
    let parts = or_parts (not (is_decimal 15 text)) (digits_value 10 text == 0) is.form in
    let digits : is_decimal 15 text ≡ true = not_false (is_decimal 15 text) parts.0 in
    let form = decimal_parts 15 text digits in
    let small = subst (λ (t : List ℕ). digits_value 10 t < 10 ^ 15) (take_all (length text) text (omega arith)) (digits_small (length text) text form.0 form.2) in
    let some : digits_value 10 text ≢ 0 = λ none. grind (arith, nat_tests, parts.1, none) in
    (omega (arith, is.number, some), omega (arith, is.number, small))
  where
    not_false : (b : Bool) → not b ≡ false → b ≡ true
    not_false true e = refl
    not_false false e = sym e
