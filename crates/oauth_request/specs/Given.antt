-- What a request without a fault of its parameters gives to be believed.
use Rattle.std.specs.Prelude.{◌≡◌, ◌<◌, ◌≤◌, ℕ, List, [], ◌∷◌, length, Some}
use Rattle.lti_outside.specs.declared.pairs.Pair.{Pair}
use Rattle.oauth_request.specs.Secret.{secret_in}
use Rattle.oauth_request.specs.Protocol.{values, key_name, timestamp_name, nonce_name, signature_name, IsTimestamp}
use Rattle.oauth_request.specs.declared.credentials.Credentials.{Credentials}

-- each is the one value that stands, the secret is the key's, and the key and the nonce are short
pub record AreCredentials (keys : List Pair) (field_limit : ℕ) (pairs : List Pair) (given : Credentials) : Type 0 where
  pub key : values key_name pairs ≡ given.key ∷ []
  pub timestamp_text : List ℕ
  pub timestamp : values timestamp_name pairs ≡ timestamp_text ∷ []
  pub number : IsTimestamp timestamp_text given.timestamp
  pub nonce : values nonce_name pairs ≡ given.nonce ∷ []
  pub signature : values signature_name pairs ≡ given.signature ∷ []
  pub secret : secret_in keys given.key ≡ Some given.secret.now
  pub key_short : (0 < length given.key) × (length given.key ≤ field_limit)
  pub nonce_short : (0 < length given.nonce) × (length given.nonce ≤ field_limit)
