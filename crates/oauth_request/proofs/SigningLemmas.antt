-- What this end signs is well signed at the other.
use Rattle.std.proofs.Common.{◌≡◌, ℕ, ◌<◌, ◌≤◌, true, false, not, ◌==◌, leb, List, [], ◌∷◌, ◌++◌, length, map, refl, sym, ap, ◌∙◌, arith, Result, Ok, Err, OnOk}
use Rattle.std.proofs.lemmas.List.{map-append}
use Rattle.std.proofs.lemmas.List.Elements.{filter-append}
use Rattle.std.specs.Prelude.{codes, decimal, filter, bytes_eq}
use Rattle.std.specs.List.{list_any}
use Rattle.std.proofs.lemmas.Bool.Decides.{nat_tests}
use Rattle.std.proofs.lemmas.Fmt.{decimal_is_IsNumeral_wide, length-decimal-le_wide}
use Rattle.lti_outside.specs.Decimal.{is_decimal}
use Rattle.lti_outside.specs.declared.pairs.Pair.{Pair}
use Rattle.oauth_header.specs.Written.{can_be_written}
use Rattle.http_wire.proofs.HeaderLemmas.{neither}
use Rattle.http_wire.proofs.BackHost.{and_join}
use Rattle.http_wire.proofs.BackBytes.{digits_test}
use Rattle.oauth_request.specs.Protocol.{key_name, method_name, timestamp_name, nonce_name, signature_name, version_name, token_name, body_hash_name, name_of, values, IsTimestamp}
use Rattle.oauth_request.specs.Signing.{protocol_pairs, callback_pair, pair, HoldsNone}
use Rattle.oauth_request.specs.declared.fields.Field.{Field}
use Rattle.oauth_request.specs.declared.fields.Field.TheVariants as field

pub five : (xs : List Pair) (a b c d e : Pair) → ((((xs ++ a ∷ []) ++ b ∷ []) ++ c ∷ []) ++ d ∷ []) ++ e ∷ [] ≡ xs ++ a ∷ b ∷ c ∷ d ∷ e ∷ []
five [] a b c d e = refl
five (x ∷ xs) a b c d e = ap (λ ys. x ∷ ys) (five xs a b c d e)

pub OnOk-then : {T E : Type 0} {P Q : Type 0} (r : Result T E) → (P → Q) → OnOk r P → OnOk r Q
OnOk-then (Ok x) more is = more is
OnOk-then (Err e) more is = is

-- what stands in the header can be written
pub can : (key nonce hash text : List ℕ) (moment : ℕ)
    → can_be_written ((protocol_pairs key moment nonce ++ pair body_hash_name hash ∷ []) ++ pair signature_name text ∷ []) ≡ true
unfolding protocol_pairs key_name method_name timestamp_name nonce_name version_name body_hash_name signature_name
can key nonce hash text moment = refl

-- the values of two lists, one behind the other
values-append : (name : List ℕ) (ps qs : List Pair) → values name (ps ++ qs) ≡ values name ps ++ values name qs
unfolding values
values-append name ps qs =
    ap (map (λ (p : Pair). p.value)) (filter-append (λ (p : Pair). bytes_eq p.name name) ps qs)
    ∙ map-append (λ (p : Pair). p.value) (filter (λ (p : Pair). bytes_eq p.name name) ps) (filter (λ (p : Pair). bytes_eq p.name name) qs)

-- nothing stands under a name that no pair has
none_stand : (name : List ℕ) (ps : List Pair) → list_any (λ (p : Pair). bytes_eq p.name name) ps ≡ false → values name ps ≡ []
unfolding values
none_stand name [] none = refl
none_stand name (p ∷ ps) none =
    let both = neither (bytes_eq p.name name) (list_any (λ (q : Pair). bytes_eq q.name name) ps) none in
    rw both.0 (none_stand name ps both.1)

-- and nothing is dropped by that name
pub none_dropped : (name : List ℕ) (ps : List Pair) → list_any (λ (p : Pair). bytes_eq p.name name) ps ≡ false → filter (λ (p : Pair). not (bytes_eq p.name name)) ps ≡ ps
none_dropped name [] none = refl
none_dropped name (p ∷ ps) none =
    let both = neither (bytes_eq p.name name) (list_any (λ (q : Pair). bytes_eq q.name name) ps) none in
    rw both.0 (ap (λ qs. p ∷ qs) (none_dropped name ps both.1))

-- what stands under the names of the protocol
pub record AreSigned (pairs : List Pair) (key nonce text : List ℕ) (moment : ℕ) (hash : List (List ℕ)) : Type 0 where
  pub key_is : values key_name pairs ≡ key ∷ []
  pub method : values method_name pairs ≡ codes "HMAC-SHA1" ∷ []
  pub timestamp : values timestamp_name pairs ≡ decimal moment ∷ []
  pub nonce_is : values nonce_name pairs ≡ nonce ∷ []
  pub signature : values signature_name pairs ≡ text ∷ []
  pub version : values version_name pairs ≡ codes "1.0" ∷ []
  pub token : values token_name pairs ≡ []
  pub hash_is : values body_hash_name pairs ≡ hash

-- what is signed behind the front
abbrev pub form_tail : List ℕ → ℕ → List ℕ → List ℕ → List Pair
form_tail key moment nonce text = protocol_pairs key moment nonce ++ callback_pair ∷ pair signature_name text ∷ []

abbrev pub body_tail : List ℕ → ℕ → List ℕ → List ℕ → List ℕ → List Pair
body_tail key moment nonce hash text = protocol_pairs key moment nonce ++ pair body_hash_name hash ∷ pair signature_name text ∷ []

pub form_signed : (key nonce text : List ℕ) (moment : ℕ) → AreSigned (form_tail key moment nonce text) key nonce text moment []
unfolding values protocol_pairs key_name method_name timestamp_name nonce_name signature_name version_name token_name body_hash_name
form_signed key nonce text moment = record {
  key_is = refl;
  method = refl;
  timestamp = refl;
  nonce_is = refl;
  signature = refl;
  version = refl;
  token = refl;
  hash_is = refl;
}

pub body_signed : (key nonce hash text : List ℕ) (moment : ℕ) → AreSigned (body_tail key moment nonce hash text) key nonce text moment (hash ∷ [])
unfolding values protocol_pairs key_name method_name timestamp_name nonce_name signature_name version_name token_name body_hash_name
body_signed key nonce hash text moment = record {
  key_is = refl;
  method = refl;
  timestamp = refl;
  nonce_is = refl;
  signature = refl;
  version = refl;
  token = refl;
  hash_is = refl;
}

-- all but the signature
pub form_kept : (key nonce text : List ℕ) (moment : ℕ)
    → filter (λ (p : Pair). not (bytes_eq p.name signature_name)) (form_tail key moment nonce text) ≡ protocol_pairs key moment nonce ++ callback_pair ∷ []
unfolding protocol_pairs key_name method_name timestamp_name nonce_name signature_name version_name
form_kept key nonce text moment = refl

pub body_kept : (key nonce hash text : List ℕ) (moment : ℕ)
    → filter (λ (p : Pair). not (bytes_eq p.name signature_name)) (body_tail key moment nonce hash text) ≡ protocol_pairs key moment nonce ++ pair body_hash_name hash ∷ []
unfolding protocol_pairs key_name method_name timestamp_name nonce_name signature_name version_name body_hash_name
body_kept key nonce hash text moment = refl

-- the same behind a front that holds none
pub behind : (front pairs : List Pair) (key nonce text : List ℕ) (moment : ℕ) (hash : List (List ℕ)) → HoldsNone front
    → AreSigned pairs key nonce text moment hash → AreSigned (front ++ pairs) key nonce text moment hash
behind front pairs key nonce text moment hash none are = record {
  key_is = at field.ConsumerKey ∙ are.key_is;
  method = at field.SignatureMethod ∙ are.method;
  timestamp = at field.Timestamp ∙ are.timestamp;
  nonce_is = at field.Nonce ∙ are.nonce_is;
  signature = at field.Signature ∙ are.signature;
  version = at field.Version ∙ are.version;
  token = at field.Token ∙ are.token;
  hash_is = at field.BodyHash ∙ are.hash_is;
}
  where
    at : (f : Field) → values (name_of f) (front ++ pairs) ≡ values (name_of f) pairs
    at f = values-append (name_of f) front pairs ∙ ap (λ (vs : List (List ℕ)). vs ++ values (name_of f) pairs) (none_stand (name_of f) front (none f))

-- a moment's digits are a timestamp
at_least_one : (n : ℕ) → 0 < n → leb 1 n ≡ true
at_least_one n some = grind (arith, nat_tests)

at_most : (n : ℕ) → n ≤ 15 → leb n 15 ≡ true
at_most n few = grind (arith, nat_tests)

not_zero : (n : ℕ) → 1 ≤ n → (n == 0) ≡ false
not_zero n some = grind (arith, nat_tests)

pub timestamp_fine : (n : ℕ) → 1 ≤ n → n ≤ 999999999999999 → IsTimestamp (decimal n) n
timestamp_fine n some small =
    let numeral = decimal_is_IsNumeral_wide n (omega (arith, small)) in
    let short = length-decimal-le_wide 15 n (omega arith) (omega (arith, small)) (omega (arith, small)) in
    let digits : is_decimal 15 (decimal n) ≡ true
    = and_join _ _ (and_join _ _ (at_least_one (length (decimal n)) numeral.0.0) (at_most (length (decimal n)) short)) (digits_test (decimal n) numeral.0.1) in
    record {
      form = rw (digits, numeral.1) (not_zero n some);
      number = sym numeral.1;
    }
