-- The digits of a length, and their number.
use Rattle.std.proofs.Common.{◌≡◌, ℕ, ◌==◌, ◌<◌, ◌^◌, true, false, List, [], ◌∷◌, get_or, IsAscii, refl, arith}
use Rattle.std.specs.List.{list_all}
use Rattle.std.specs.Char.{is_ascii_digit}
use Rattle.std.specs.Str.Parse.{AllDigits, IsNumeral, digits_value, without_leading_plus}
use Rattle.std.proofs.lemmas.Bool.Decides.{nat_tests}
use Rattle.std.proofs.lemmas.Int.Digits.{digits_value-lt}
use Rattle.std.proofs.lemmas.List.Elements.{All-weaker}
use Rattle.std.proofs.lemmas.List.Sums.{AllPass-from_list_all}
use Rattle.std.proofs.lemmas.Str.Ascii.{IsAscii-from_all}
use Rattle.std.proofs.Math.Nat.{pow-le-pow_right}
use Rattle.lti_outside.proofs.BoolLemmas.{and_split}
use Rattle.lti_outside.proofs.DigitLemmas.{digit_worth, digit_worth_at, decimal_parts}
use Rattle.http_wire.specs.Headers.{is_length}

pub all_digits : (bs : List ℕ) → list_all is_ascii_digit bs ≡ true → AllDigits 10 bs
all_digits [] all = tt
all_digits (b ∷ bs) all =
    let both = and_split (is_ascii_digit b) (list_all is_ascii_digit bs) all in
    let worth = digit_worth b both.0 in
    (omega arith, all_digits bs both.1)

-- no sign stands before the digits of a length
pub no_plus : (digits : List ℕ) → is_length digits ≡ true → without_leading_plus digits ≡ digits
no_plus digits test =
    let parts = decimal_parts 19 digits test in
    let worth = digit_worth_at digits 0 parts.0 (omega arith) in
    let other : (get_or digits 0 0 == 43) ≡ false = grind (arith, nat_tests) in
    rw other refl

pub small_digits : (digits : List ℕ) → is_length digits ≡ true → digits_value 10 digits < 10 ^ 19
small_digits digits test =
    let parts = decimal_parts 19 digits test in
    let below = digits_value-lt 10 digits (all_digits digits parts.0) in
    let bound = pow-le-pow_right {n = 10} (omega arith) parts.2 in
    omega (arith, below, bound)

-- the digits of a length are a numeral that fits
pub length_parses : (digits : List ℕ) → is_length digits ≡ true → IsNumeral 10 (without_leading_plus digits) × (digits_value 10 (without_leading_plus digits) < 2 ^ 64)
length_parses digits test =
    let parts = decimal_parts 19 digits test in
    let small = small_digits digits test in
    rw (no_plus digits test) ((omega arith, all_digits digits parts.0), omega (arith, small))

digit_is_ascii : (b : ℕ) → is_ascii_digit b ≡ true → b < 128
digit_is_ascii b test = let worth = digit_worth b test in omega arith

pub length_is_ascii : (digits : List ℕ) → is_length digits ≡ true → IsAscii digits
length_is_ascii digits test =
    IsAscii-from_all digits
    (All-weaker (λ b. is_ascii_digit b ≡ true) (λ b. b < 128) digit_is_ascii digits (AllPass-from_list_all is_ascii_digit digits (decimal_parts 19 digits test).0))
