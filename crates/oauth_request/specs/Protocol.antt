-- The names of the protocol's parameters (RFC 5849, section 3.1, and the OAuth Request Body Hash draft), and the values
-- that stand under them.
use Rattle.std.specs.Prelude.{◌≡◌, ℕ, Bool, false, not, ◌||◌, ◌==◌, nat_lt, List, length, map, filter, codes, bytes_eq}
use Rattle.std.specs.Str.Parse.{digits_value}
use Rattle.lti_outside.specs.declared.pairs.Pair.{Pair}
use Rattle.lti_outside.specs.Decimal.{is_decimal}
use Rattle.oauth_request.specs.declared.fields.Field.{Field}
use Rattle.oauth_request.specs.declared.fields.Field.TheVariants.{ConsumerKey, SignatureMethod, Timestamp, Nonce, Signature, Version, Token, BodyHash}

unfoldable pub key_name : List ℕ
key_name = codes "oauth_consumer_key"

unfoldable pub method_name : List ℕ
method_name = codes "oauth_signature_method"

unfoldable pub timestamp_name : List ℕ
timestamp_name = codes "oauth_timestamp"

unfoldable pub nonce_name : List ℕ
nonce_name = codes "oauth_nonce"

unfoldable pub signature_name : List ℕ
signature_name = codes "oauth_signature"

unfoldable pub version_name : List ℕ
version_name = codes "oauth_version"

unfoldable pub token_name : List ℕ
token_name = codes "oauth_token"

unfoldable pub body_hash_name : List ℕ
body_hash_name = codes "oauth_body_hash"

abbrev pub name_of : Field → List ℕ
name_of ConsumerKey = key_name
name_of SignatureMethod = method_name
name_of Timestamp = timestamp_name
name_of Nonce = nonce_name
name_of Signature = signature_name
name_of Version = version_name
name_of Token = token_name
name_of BodyHash = body_hash_name

-- the place of a parameter in the order in which faults name them
abbrev pub place_of : Field → ℕ
place_of ConsumerKey = 0
place_of SignatureMethod = 1
place_of Timestamp = 2
place_of Nonce = 3
place_of Signature = 4
place_of Version = 5
place_of Token = 6
place_of BodyHash = 7

-- the values that stand under a name, in order
unfoldable pub values : List ℕ → List Pair → List (List ℕ)
values name pairs = map (λ pair. pair.value) (filter (λ pair. bytes_eq pair.name name) pairs)

-- another signature method than HMAC-SHA1 (RFC 5849, section 3.4.2)
abbrev pub is_other_method : List ℕ → Bool
is_other_method value = not (bytes_eq value (codes "HMAC-SHA1"))

-- another version than 1.0
abbrev pub is_other_version : List ℕ → Bool
is_other_version value = not (bytes_eq value (codes "1.0"))

-- a token that isn't empty: this project has no token credentials
abbrev pub is_token : List ℕ → Bool
is_token value = not (length value == 0)

-- not 1 to 15 digits, or the number 0
abbrev pub is_bad_timestamp : List ℕ → Bool
is_bad_timestamp value = not (is_decimal 15 value) || digits_value 10 value == 0

-- no byte
abbrev pub is_empty : List ℕ → Bool
is_empty value = length value == 0

-- more bytes than so many
abbrev pub is_long : ℕ → List ℕ → Bool
is_long field value = nat_lt field (length value)

-- the text is a number of 1 to 15 digits that isn't 0
pub record IsTimestamp (text : List ℕ) (timestamp : ℕ) : Type 0 where
  pub form : is_bad_timestamp text ≡ false
  pub number : timestamp ≡ digits_value 10 text
