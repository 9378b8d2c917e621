-- Decimal digits and their number.
use Rattle.std.proofs.Common.{◌≡◌, ℕ, zero, suc, ◌-◌, ◌<◌, ◌≤◌, ◌^◌, true, ◌&&◌, List, [], ◌∷◌, leb, length, get_or, take, arith, length-take}
use Rattle.std.specs.List.{list_all}
use Rattle.std.specs.Char.{is_ascii_digit, digit_value}
use Rattle.std.specs.Str.Parse.{AllDigits, digits_value}
use Rattle.lti_outside.proofs.BoolLemmas.{and_split}
use Rattle.std.proofs.lemmas.Bool.Decides.{nat_tests}
use Rattle.std.proofs.lemmas.List.Elements.{All-get_or}
use Rattle.std.proofs.lemmas.List.Sums.{AllPass-from_list_all}
use Rattle.lti_outside.specs.Decimal.{is_decimal}
use Rattle.std.proofs.lemmas.Int.Digits.{digits_value-lt}
use Rattle.std.proofs.Math.Nat.{pow-le-pow_right}

-- what a digit is worth
pub digit_worth : (b : ℕ) → is_ascii_digit b ≡ true → (48 ≤ b) × (b ≤ 57) × (digit_value b ≡ b - 48)
digit_worth b test = (grind (arith, nat_tests), grind (arith, nat_tests), grind (arith, nat_tests))

all_digits : (bs : List ℕ) → list_all is_ascii_digit bs ≡ true → AllDigits 10 bs
all_digits [] all = tt
all_digits (b ∷ bs) all =
    let both = and_split (is_ascii_digit b) (list_all is_ascii_digit bs) all in
    let worth = digit_worth b both.0 in
    (omega arith, all_digits bs both.1)

AllDigits-take : (i : ℕ) (bs : List ℕ) → AllDigits 10 bs → AllDigits 10 (take i bs)
AllDigits-take zero bs all = tt
AllDigits-take (suc i) [] all = tt
AllDigits-take (suc i) (b ∷ bs) all = (all.0, AllDigits-take i bs all.1)

-- fifteen digits at most are a small number
pub digits_small : (i : ℕ) (bs : List ℕ) → list_all is_ascii_digit bs ≡ true → length bs ≤ 15 → digits_value 10 (take i bs) < 10 ^ 15
digits_small i bs all short =
    let below = digits_value-lt 10 (take i bs) (AllDigits-take i bs (all_digits bs all)) in
    let few : length (take i bs) ≤ 15 = omega (arith, length-take i bs) in
    let bound = pow-le-pow_right {n = 10} (omega arith) few in
    omega (arith, below, bound)

pub digit_worth_at : (bs : List ℕ) (i : ℕ) → list_all is_ascii_digit bs ≡ true → i < length bs
    → (48 ≤ get_or bs i 0) × (get_or bs i 0 ≤ 57) × (digit_value (get_or bs i 0) ≡ get_or bs i 0 - 48)
digit_worth_at bs i all within =
    digit_worth (get_or bs i 0) (All-get_or (λ (b : ℕ). is_ascii_digit b ≡ true) bs i 0 within (AllPass-from_list_all is_ascii_digit bs all))

pub decimal_parts : (most : ℕ) (bs : List ℕ) → is_decimal most bs ≡ true → (list_all is_ascii_digit bs ≡ true) × (1 ≤ length bs) × (length bs ≤ most)
decimal_parts most bs test =
    let all = and_split (leb 1 (length bs) && leb (length bs) most) (list_all is_ascii_digit bs) test in
    let lengths = and_split (leb 1 (length bs)) (leb (length bs) most) all.0 in
    (all.1, grind (arith, nat_tests), grind (arith, nat_tests))
