-- The hash of a body (OAuth Request Body Hash 1.0, draft 4).
use Rattle.std.specs.Prelude.{ℕ, List}
use Rattle.base64.specs.Engines.{standard}
use Rattle.base64.specs.GeneralPurpose.{encode_of}
use Rattle.sha1.specs.Sha1 as digest
use Rattle.oauth_sign.specs.declared.body.BodyHash.{BodyHash}

-- the hash was fed these bytes
abbrev pub IsFed : BodyHash → List ℕ → Type 0
IsFed hash fed = digest.Holds hash.hasher fed

-- the base64 text of the digest of a body
abbrev pub body_hash : List ℕ → List ℕ
body_hash body = encode_of standard (digest.sha1 body)
