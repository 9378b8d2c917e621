-- How long a made nonce is.
use Rattle.std.proofs.Common.{◌≡◌, ℕ, length, refl, arith, length-append}
use Rattle.std.specs.Int.{w64, to_be_bytes}
use Rattle.hex.specs.Hex.{encode_lower, lower_digits}
use Rattle.hex.proofs.HexLemmas.{length-encode_with}
use Rattle.lti_operator.specs.Made.{nonce_text}

eight : (word : ℕ) → length (to_be_bytes w64 word) ≡ 8
eight word = refl

pub nonce-length : (first second : ℕ) → length (nonce_text first second) ≡ 32
nonce-length first second =
    omega (
      arith,
      length-append (encode_lower (to_be_bytes w64 first)) (encode_lower (to_be_bytes w64 second)),
      length-encode_with lower_digits (to_be_bytes w64 first),
      length-encode_with lower_digits (to_be_bytes w64 second),
      eight first,
      eight second,
    )
