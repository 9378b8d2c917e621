-- What was found under the protocol's names.
use Rattle.std.specs.Prelude.{◌≡◌, ◌<◌, ℕ, List, [], ◌∷◌, length, get_or, Option, None, MatchOption}
use Rattle.std.specs.Borrow.{Bor}
use Rattle.lti_outside.specs.declared.pairs.Pair.{Pair}
use Rattle.http_wire.specs.Conditions.{first_fault}
use Rattle.oauth_request.specs.Conditions.{duplicate_conditions}
use Rattle.oauth_request.specs.Protocol.{name_of, place_of, values, key_name, method_name, timestamp_name, nonce_name, signature_name, version_name, token_name, body_hash_name}
use Rattle.oauth_request.specs.declared.fields.Field.{Field}
use Rattle.oauth_request.specs.declared.protocol.Found.{Found}
use Rattle.oauth_request.specs.declared.protocol.Found.TheVariants.{Absent, Once, Repeated}
use Rattle.oauth_request.specs.declared.protocol.Protocol.{Protocol}
use Rattle.oauth_request.specs.declared.stated.Stated.{Stated}

-- these values stand under the name
abbrev pub Stands : Found → List (List ℕ) → Type 0
Stands Absent values = values ≡ []
Stands (Once value) values = values ≡ value.now ∷ []
Stands Repeated values = 1 < length values

-- what was found at the place of a field
abbrev pub found_at : Protocol → Field → Found
found_at protocol field = get_or protocol.found (place_of field) Absent

-- what was found under each name is what stands there
pub record AreFoundIn (protocol : Protocol) (pairs : List Pair) : Type 0 where
  pub whole : length protocol.found ≡ 8
  pub stand : (field : Field) → Stands (found_at protocol field) (values (name_of field) pairs)

-- the same, and no name stands twice
pub record AreSingle (protocol : Protocol) (pairs : List Pair) : Type 0 where
  pub found : AreFoundIn protocol pairs
  pub once : first_fault (duplicate_conditions pairs) ≡ None

-- the one value that stands, or none
abbrev pub IsSingle : Option (Bor (List ℕ)) → List (List ℕ) → Type 0
IsSingle found values = MatchOption found (values ≡ []) (λ value. values ≡ value.now ∷ [])

-- the values are those of the pairs, in which each name that is needed stands
pub record IsStated (stated : Stated) (pairs : List Pair) : Type 0 where
  pub key : values key_name pairs ≡ stated.key.now ∷ []
  pub method : values method_name pairs ≡ stated.method.now ∷ []
  pub timestamp : values timestamp_name pairs ≡ stated.timestamp.now ∷ []
  pub nonce : values nonce_name pairs ≡ stated.nonce.now ∷ []
  pub signature : values signature_name pairs ≡ stated.signature.now ∷ []
  pub version : IsSingle stated.version (values version_name pairs)
  pub token : IsSingle stated.token (values token_name pairs)
  pub body_hash : IsSingle stated.body_hash (values body_hash_name pairs)
