-- Base strings and signatures (RFC 5849, sections 3.4.1.1 and 3.4.2).
use Rattle.std.specs.Prelude.{◌≡◌, ℕ, List, ◌∷◌, ◌++◌}
use Rattle.std.specs.Str.{str_to_ascii_uppercase}
use Rattle.base64.specs.Engines.{standard}
use Rattle.base64.specs.GeneralPurpose.{encode_of}
use Rattle.lti_outside.specs.declared.pairs.Pair.{Pair}
use Rattle.oauth_text.specs.Escape.{escape}
use Rattle.oauth_text.specs.Normal.{IsNormal}
use Rattle.oauth_sign.specs.Hmac.{hmac}

-- the method in upper case, the escaped base string URI and the escaped normal form, with `&` between them (section 3.4.1.1)
abbrev pub base_text : List ℕ → List ℕ → List ℕ → List ℕ
base_text method uri normal = str_to_ascii_uppercase method ++ 38 ∷ escape uri ++ 38 ∷ escape normal

-- the text is the base string of a method, a base string URI and parameters
pub record IsBaseString (method uri : List ℕ) (pairs : List Pair) (text : List ℕ) : Type 0 where
  pub normal : List ℕ
  pub normal_of : IsNormal pairs normal
  pub is : text ≡ base_text method uri normal

-- the two escaped secrets with `&` between them (section 3.4.2)
abbrev pub signing_key : List ℕ → List ℕ → List ℕ
signing_key secret token_secret = escape secret ++ 38 ∷ escape token_secret

-- the base64 text of the HMAC-SHA1 of the base string under that key (section 3.4.2)
abbrev pub signature_text : List ℕ → List ℕ → List ℕ → List ℕ
signature_text base secret token_secret = encode_of standard (hmac (signing_key secret token_secret) base)

-- the text is the signature of the base string
pub record IsSignature (method uri : List ℕ) (pairs : List Pair) (secret token_secret text : List ℕ) : Type 0 where
  pub base : List ℕ
  pub base_of : IsBaseString method uri pairs base
  pub is : text ≡ signature_text base secret token_secret
