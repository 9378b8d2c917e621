-- Moments and nonces that this end makes for what it signs (RFC 5849, section 3.3; the choice of them is this project's own).
use Rattle.std.specs.Prelude.{◌≡◌, ℕ, max, List, ◌++◌, Option}
use Rattle.std.specs.Int.{w64, to_be_bytes}
use Rattle.hex.specs.Hex.{encode_lower}
use Rattle.lti_outside.specs.Moment as clock
use Rattle.lti_outside.specs.Words.{Draws}

-- the moment is one of the clock, and at least 1
abbrev pub IsMadeMoment : Option ℕ → ℕ → Type 0
IsMadeMoment told moment = (now : ℕ) × clock.IsTold told now × (moment ≡ max 1 now)

-- two words as 32 hexadecimal digits in lower case
abbrev pub nonce_text : ℕ → ℕ → List ℕ
nonce_text first second = encode_lower (to_be_bytes w64 first) ++ encode_lower (to_be_bytes w64 second)

-- the nonce is the next two random words
abbrev pub IsMadeNonce : Option (List ℕ) → Option (List ℕ) → List ℕ → Type 0
IsMadeNonce before after nonce =
    (first : ℕ) × (second : ℕ) × (mid : Option (List ℕ)) × Draws before mid first × Draws mid after second × (nonce ≡ nonce_text first second)
