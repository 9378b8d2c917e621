-- What is wrong with the parameters of a request, in the order in which it is said (this project's own).
use Rattle.std.specs.Prelude.{◌≡◌, ℕ, Bool, not, ◌&&◌, ◌||◌, ◌==◌, nat_lt, List, [], ◌∷◌, length, map, bytes_eq, if◌then◌else◌, Some, is_none, ⊤}
use Rattle.std.specs.List.{list_any}
use Rattle.lti_outside.specs.declared.pairs.Pair.{Pair}
use Rattle.oauth_sign.specs.Body.{body_hash}
use Rattle.http_wire.specs.Conditions.{Condition, first_fault}
use Rattle.oauth_request.specs.Secret.{secret_in}
use Rattle.oauth_request.specs.Protocol.{name_of, values, is_other_method, is_other_version, is_token, is_bad_timestamp, is_empty, is_long}
use Rattle.oauth_request.specs.declared.fields.Field.{Field}
use Rattle.oauth_request.specs.declared.fields.Field.TheVariants as field
use Rattle.oauth_request.specs.declared.faults.AuthFault.{AuthFault}
use Rattle.oauth_request.specs.declared.faults.AuthFault.TheVariants.{Duplicate, Missing, UnsupportedMethod, BadVersion, TokenNotSupported, BadTimestamp, BadNonce, TooLong, UnknownKey, BodyHashMismatch, NoMemory}

-- the fault is that of the first condition that holds; `NoMemory` says nothing of them
abbrev pub IsFirstOf : List (Condition AuthFault) → AuthFault → Type 0
IsFirstOf conditions NoMemory = ⊤
IsFirstOf conditions fault = first_fault conditions ≡ Some fault

-- a name stands twice
abbrev pub is_duplicate : List Pair → Field → Bool
is_duplicate pairs name = nat_lt 1 (length (values (name_of name) pairs))

-- a name stands nowhere
abbrev pub is_missing : List Pair → Field → Bool
is_missing pairs name = length (values (name_of name) pairs) == 0

-- all names of the protocol, in order
abbrev pub fields : List Field
fields = field.ConsumerKey ∷ field.SignatureMethod ∷ field.Timestamp ∷ field.Nonce ∷ field.Signature ∷ field.Version ∷ field.Token ∷ field.BodyHash ∷ []

-- those that a request needs, by whether its body is a form
abbrev pub needed_fields : Bool → List Field
needed_fields form =
    field.ConsumerKey ∷ field.SignatureMethod ∷ field.Timestamp ∷ field.Nonce ∷ field.Signature ∷ (if form then [] else field.BodyHash ∷ [])

unfoldable pub duplicate_conditions : List Pair → List (Condition AuthFault)
duplicate_conditions pairs = map (λ name. record { holds = is_duplicate pairs name; fault = Duplicate name }) fields

unfoldable pub missing_conditions : Bool → List Pair → List (Condition AuthFault)
missing_conditions form pairs = map (λ name. record { holds = is_missing pairs name; fault = Missing name }) (needed_fields form)

-- a value under the name passes the test
abbrev pub has_value : (List ℕ → Bool) → Field → List Pair → Bool
has_value test name pairs = list_any test (values (name_of name) pairs)

-- the values that are refused; a key or nonce has at most `field_limit` bytes
unfoldable pub text_conditions : ℕ → List Pair → List (Condition AuthFault)
text_conditions field_limit pairs =
    record { holds = has_value is_other_method field.SignatureMethod pairs; fault = UnsupportedMethod }
    ∷ record { holds = has_value is_other_version field.Version pairs; fault = BadVersion }
    ∷ record { holds = has_value is_token field.Token pairs; fault = TokenNotSupported }
    ∷ record { holds = has_value is_bad_timestamp field.Timestamp pairs; fault = BadTimestamp }
    ∷ record { holds = has_value is_empty field.Nonce pairs; fault = BadNonce }
    ∷ record { holds = has_value (is_long field_limit) field.ConsumerKey pairs || has_value (is_long field_limit) field.Nonce pairs; fault = TooLong } ∷ []

-- a key without a secret, and a hash that isn't the body's, by whether the body is a form
unfoldable pub credential_conditions : List Pair → Bool → List ℕ → List Pair → List (Condition AuthFault)
credential_conditions keys form body pairs =
    record { holds = has_value (λ key. is_none (secret_in keys key)) field.ConsumerKey pairs; fault = UnknownKey }
    ∷ record { holds = not form && has_value (λ hash. not (bytes_eq hash (body_hash body))) field.BodyHash pairs; fault = BodyHashMismatch } ∷ []
