-- What this end signs: a form that is posted, or a body with its hash (RFC 5849, section 3.1, and the OAuth Request Body
-- Hash draft; the order of the parameters is this project's own).
use Rattle.std.specs.Prelude.{◌≡◌, ◌≤◌, ℕ, true, false, List, [], ◌∷◌, ◌++◌, length, codes, decimal, bytes_eq, Some}
use Rattle.std.specs.List.{list_any}
use Rattle.lti_outside.specs.declared.pairs.Pair.{Pair}
use Rattle.oauth_text.specs.Form.{IsForm, pairs_of}
use Rattle.oauth_text.specs.Url.{UrlParts}
use Rattle.oauth_sign.specs.BaseUri.{base_uri_of}
use Rattle.oauth_sign.specs.Body.{body_hash}
use Rattle.oauth_sign.specs.Signature.{IsSignature}
use Rattle.oauth_header.specs.Header.{IsHeader, header_pairs}
use Rattle.oauth_header.specs.Written.{header_text}
use Rattle.http_wire.specs.Message.{RequestParts}
use Rattle.oauth_request.specs.Checked.{Terms, form_type, parameters, IsWellSigned, Says}
use Rattle.oauth_request.specs.Protocol.{key_name, method_name, timestamp_name, nonce_name, signature_name, version_name, body_hash_name, name_of}
use Rattle.oauth_request.specs.Secret.{secret_in}
use Rattle.oauth_request.specs.declared.fields.Field.{Field}

-- no name of the protocol stands among the pairs
abbrev pub HoldsNone : List Pair → Type 0
HoldsNone pairs = (field : Field) → list_any (λ pair. bytes_eq pair.name (name_of field)) pairs ≡ false

-- a positive moment of at most 15 digits, and a key and a nonce of 1 to 255 bytes
pub record CanSign (key : List ℕ) (moment : ℕ) (nonce : List ℕ) : Type 0 where
  pub moment_some : 1 ≤ moment
  pub moment_small : moment ≤ 999999999999999
  pub key_some : 1 ≤ length key
  pub key_short : length key ≤ 255
  pub nonce_some : 1 ≤ length nonce
  pub nonce_short : length nonce ≤ 255

abbrev pub pair : List ℕ → List ℕ → Pair
pair name value = record { name = name; value = value }

-- the parameters of the protocol that every signed request has, besides the signature
unfoldable pub protocol_pairs : List ℕ → ℕ → List ℕ → List Pair
protocol_pairs key moment nonce =
    pair key_name key ∷ pair method_name (codes "HMAC-SHA1") ∷ pair timestamp_name (decimal moment) ∷ pair nonce_name nonce
    ∷ pair version_name (codes "1.0") ∷ []

-- a form names no address to call back (LTI 1.1.1, section 4.2)
abbrev pub callback_pair : Pair
callback_pair = pair (codes "oauth_callback") (codes "about:blank")

-- what is signed of a form, and of a body
abbrev pub form_pairs : List Pair → List ℕ → ℕ → List ℕ → List Pair
form_pairs fields key moment nonce = (fields ++ protocol_pairs key moment nonce) ++ callback_pair ∷ []

abbrev pub body_pairs : List ℕ → ℕ → List ℕ → List ℕ → List Pair
body_pairs key moment nonce body = protocol_pairs key moment nonce ++ pair body_hash_name (body_hash body) ∷ []

-- the text is the signature of a POST to the URL with these parameters besides those of its query
abbrev pub IsSignatureOf : UrlParts → List Pair → List ℕ → List ℕ → Type 0
IsSignatureOf url pairs secret text =
    IsSignature (codes "POST") (base_uri_of url.scheme url.name url.port url.path) (pairs_of url.query ++ pairs) secret [] text

-- the fields, the parameters of the protocol, and the signature of these
pub record IsSignedForm (url : UrlParts) (fields : List Pair) (key secret : List ℕ) (moment : ℕ) (nonce : List ℕ) (signed : List Pair) : Type 0 where
  pub text : List ℕ
  pub signature : IsSignatureOf url (form_pairs fields key moment nonce) secret text
  pub is : signed ≡ form_pairs fields key moment nonce ++ pair signature_name text ∷ []

-- the request that posts a body to the URL and ends the connection; its header has the parameters, the hash of the body,
-- and the signature of these
pub record IsSignedBody (url : UrlParts) (media body key secret : List ℕ) (moment : ℕ) (nonce : List ℕ) (q : RequestParts) : Type 0 where
  pub text : List ℕ
  pub signature : IsSignatureOf url (body_pairs key moment nonce body) secret text
  pub is : q ≡ record {
    method = codes "POST";
    path = url.path;
    query = url.query;
    host_name = url.name;
    host_port = url.port;
    media = media;
    encoded = false;
    authorization = header_text (body_pairs key moment nonce body ++ pair signature_name text ∷ []);
    body = body;
    close = true;
  }
  pub header : IsHeader (header_text (body_pairs key moment nonce body ++ pair signature_name text ∷ []))
  pub header_is : header_pairs (header_text (body_pairs key moment nonce body ++ pair signature_name text ∷ [])) ≡ body_pairs key moment nonce body ++ pair signature_name text ∷ []

-- the other end knows the key with this secret, takes a key and a nonce as long as these, is reached by the URL's scheme,
-- and the URL's query decodes and holds no name of the protocol
pub record AreTermsOf (terms : Terms) (url : UrlParts) (key secret nonce : List ℕ) : Type 0 where
  pub known : secret_in terms.keys key ≡ Some secret
  pub key_short : length key ≤ terms.field
  pub nonce_short : length nonce ≤ terms.field
  pub scheme : terms.scheme ≡ url.scheme
  pub query : IsForm url.query
  pub query_free : HoldsNone (pairs_of url.query)

-- the request posts these pairs to the URL as a form, without an Authorization header
pub record PostsForm (url : UrlParts) (signed : List Pair) (q : RequestParts) : Type 0 where
  pub method : q.method ≡ codes "POST"
  pub path : q.path ≡ url.path
  pub query : q.query ≡ url.query
  pub host_name : q.host_name ≡ url.name
  pub host_port : q.host_port ≡ url.port
  pub media : q.media ≡ form_type
  pub authorization : q.authorization ≡ []
  pub form : IsForm q.body
  pub pairs : pairs_of q.body ≡ signed

-- the request is well signed, and says what was signed
pub record IsBelieved (terms : Terms) (key : List ℕ) (moment : ℕ) (nonce : List ℕ) (q : RequestParts) : Type 0 where
  pub well_signed : IsWellSigned terms q
  pub says : Says q record { key = key; timestamp = moment; nonce = nonce; pairs = parameters q }

-- What this end signs is well signed at the other.
abbrev pub SignedIsBelieved : Type 0
SignedIsBelieved =
    ((terms : Terms) (url : UrlParts) (fields signed : List Pair) (key secret nonce : List ℕ) (moment : ℕ) (q : RequestParts)
    → CanSign key moment nonce → HoldsNone fields → AreTermsOf terms url key secret nonce
    → IsSignedForm url fields key secret moment nonce signed → PostsForm url signed q → IsBelieved terms key moment nonce q)
    × ((terms : Terms) (url : UrlParts) (media body key secret nonce : List ℕ) (moment : ℕ) (q : RequestParts)
    → CanSign key moment nonce → bytes_eq media form_type ≡ false → AreTermsOf terms url key secret nonce
    → IsSignedBody url media body key secret moment nonce q → IsBelieved terms key moment nonce q)
