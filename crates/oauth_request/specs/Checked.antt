-- Which requests are well signed, and the first fault of any other (RFC 5849, section 3.2; the order of faults is this
-- project's own).
use Rattle.std.specs.Prelude.{◌≡◌, ◌⊎◌, ℕ, Bool, true, not, List, [], ◌∷◌, ◌++◌, filter, codes, bytes_eq, if◌then◌else◌, ⊤, None, Some}
use Rattle.lti_outside.specs.declared.pairs.Pair.{Pair}
use Rattle.oauth_text.specs.Form.{IsForm, pairs_of}
use Rattle.oauth_text.specs.declared.url.Scheme.{Scheme}
use Rattle.oauth_sign.specs.BaseUri.{base_uri_of}
use Rattle.oauth_sign.specs.Signature.{IsSignature}
use Rattle.oauth_header.specs.Header.{IsHeader, IsFirstBad, items_of, header_pairs}
use Rattle.http_wire.specs.Conditions.{Condition, first_fault}
use Rattle.http_wire.specs.Message.{RequestParts}
use Rattle.oauth_request.specs.Secret.{secret_in}
use Rattle.oauth_request.specs.Protocol.{values, key_name, timestamp_name, nonce_name, signature_name, IsTimestamp}
use Rattle.oauth_request.specs.Conditions.{duplicate_conditions, missing_conditions, text_conditions, credential_conditions}
use Rattle.oauth_request.specs.declared.checking.Signed.{Signed}
use Rattle.oauth_request.specs.declared.faults.AuthFault.{AuthFault}
use Rattle.oauth_request.specs.declared.faults.AuthFault.TheVariants.{BadAuthorization, BadForm, SignatureMismatch, NoMemory}

-- what requests are checked under: the keys with their secrets, the scheme by which this end is reached, and how many
-- bytes a key or nonce may have
pub record Terms : Type 0 where
  pub keys : List Pair
  pub scheme : Scheme
  pub field : ℕ

-- the media type of forms
abbrev pub form_type : List ℕ
form_type = codes "application/x-www-form-urlencoded"

abbrev pub is_form : RequestParts → Bool
is_form q = bytes_eq q.media form_type

-- the pairs of the body, where it is a form
abbrev pub body_pairs : RequestParts → List Pair
body_pairs q = if is_form q then pairs_of q.body else []

-- all parameters: those of the query, of the Authorization header without `realm`, and of a form (section 3.4.1.3.1)
abbrev pub all_pairs : RequestParts → List Pair
all_pairs q = pairs_of q.query ++ header_pairs q.authorization ++ body_pairs q

-- the parameters that are signed: all but the signature (section 3.4.1.3.1)
abbrev pub parameters : RequestParts → List Pair
parameters q = filter (λ pair. not (bytes_eq pair.name signature_name)) (all_pairs q)

-- the header, the query and a form have readings
pub record IsReadable (q : RequestParts) : Type 0 where
  pub header : IsHeader q.authorization
  pub query : IsForm q.query
  pub body : is_form q ≡ true → IsForm q.body

-- what may be wrong with parameters, in order, by whether the body is a form
unfoldable pub conditions_of : List Pair → ℕ → Bool → List ℕ → List Pair → List (Condition AuthFault)
conditions_of keys field_limit form body pairs =
    duplicate_conditions pairs ++ missing_conditions form pairs ++ text_conditions field_limit pairs ++ credential_conditions keys form body pairs

abbrev pub conditions : Terms → RequestParts → List (Condition AuthFault)
conditions terms q = conditions_of terms.keys terms.field (is_form q) q.body (all_pairs q)

-- the text is the signature of the request under the secret, without a token (section 3.4.2)
abbrev pub IsSignedBy : Terms → RequestParts → List ℕ → List ℕ → Type 0
IsSignedBy terms q secret text =
    IsSignature q.method (base_uri_of terms.scheme q.host_name q.host_port q.path) (parameters q) secret [] text

-- the signature that was sent is the one under the key's secret
pub record IsSigned (terms : Terms) (q : RequestParts) : Type 0 where
  pub key : List ℕ
  pub key_is : values key_name (all_pairs q) ≡ key ∷ []
  pub secret : List ℕ
  pub secret_is : secret_in terms.keys key ≡ Some secret
  pub text : List ℕ
  pub text_is : values signature_name (all_pairs q) ≡ text ∷ []
  pub signature : IsSignedBy terms q secret text

-- the request is well signed: it has readings, nothing is wrong with its parameters, and the signature is right
pub record IsWellSigned (terms : Terms) (q : RequestParts) : Type 0 where
  pub readable : IsReadable q
  pub faultless : first_fault (conditions terms q) ≡ None
  pub signed : IsSigned terms q

-- the fault is the first that the request has; `NoMemory` says nothing of it
abbrev pub IsAuthFault : Terms → RequestParts → AuthFault → Type 0
IsAuthFault terms q (BadAuthorization at) = IsFirstBad (items_of q.authorization) at
IsAuthFault terms q BadForm = IsHeader q.authorization × ((¬ IsForm q.query) ⊎ ((is_form q ≡ true) × (¬ IsForm q.body)))
IsAuthFault terms q NoMemory = ⊤
IsAuthFault terms q SignatureMismatch = IsReadable q × (first_fault (conditions terms q) ≡ None) × (¬ IsSigned terms q)
IsAuthFault terms q fault = IsReadable q × (first_fault (conditions terms q) ≡ Some fault)

-- what a request without a fault says of itself, and its parameters
pub record Says (q : RequestParts) (signed : Signed) : Type 0 where
  pub key : values key_name (all_pairs q) ≡ signed.key ∷ []
  pub timestamp_text : List ℕ
  pub timestamp : values timestamp_name (all_pairs q) ≡ timestamp_text ∷ []
  pub number : IsTimestamp timestamp_text signed.timestamp
  pub nonce : values nonce_name (all_pairs q) ≡ signed.nonce ∷ []
  pub pairs : signed.pairs ≡ parameters q
