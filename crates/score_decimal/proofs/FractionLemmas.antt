-- The units of a fraction, cut after its first thirty digits.
use Rattle.std.proofs.Common.{◌≡◌, ℕ, ◌+◌, ◌-◌, ◌*◌, ◌^◌, ◌<◌, ◌≤◌, ◌⊎◌, inl, inr, true, false, List, [], ◌∷◌, length, take, drop, arith, sym, ap, ◌∙◌, refl, ◌==◌, ◌%◌, length-drop, length-take, min, Some, None, if◌then◌else◌}
use Rattle.std.specs.List.{list_all}
use Rattle.std.specs.Char.{is_ascii_digit, digit_value}
use Rattle.std.specs.Str.Parse.{AllDigits, digits_value}
use Rattle.std.proofs.lemmas.List.{take-append-drop}
use Rattle.std.proofs.lemmas.List.Folds.{list_all-append}
use Rattle.std.proofs.lemmas.Int.Digits.{digits_value-lt}
use Rattle.std.proofs.lemmas.Nat.{pow-add, mod-mul-add}
use Rattle.std.proofs.lemmas.Bool.Decides.{nat_tests}
use Rattle.std.proofs.lemmas.Bool.{cases_lt, lt-leb}
use Rattle.std.proofs.Math.Dec.{leb}
use Rattle.std.proofs.Math.Nat.{min-eq_left, min-eq_right, mul-le-mul_right, one-le-pow, pow-le-pow_right, eq_of_mul-eq-mul_right}
use Rattle.lti_outside.proofs.BoolLemmas.{and_split}
use Rattle.lti_outside.proofs.DigitLemmas.{digit_worth}
use Rattle.score_decimal.proofs.DigitSums.{value_after, value_cut, zeros_value}

pub all_digits : (bs : List ℕ) → list_all is_ascii_digit bs ≡ true → AllDigits 10 bs
all_digits [] all = tt
all_digits (b ∷ bs) all =
    let both = and_split (is_ascii_digit b) (list_all is_ascii_digit bs) all in
    let worth = digit_worth b both.0 in
    (omega arith, all_digits bs both.1)

pub value_below : (bs : List ℕ) → list_all is_ascii_digit bs ≡ true → digits_value 10 bs < 10 ^ length bs
value_below bs all = digits_value-lt 10 bs (all_digits bs all)

-- both pieces of a list of digits are digits
pub digits_cut : (i : ℕ) (bs : List ℕ) → list_all is_ascii_digit bs ≡ true → (list_all is_ascii_digit (take i bs) ≡ true) × (list_all is_ascii_digit (drop i bs) ≡ true)
digits_cut i bs all =
    and_split (list_all is_ascii_digit (take i bs)) (list_all is_ascii_digit (drop i bs))
    (sym (list_all-append is_ascii_digit (take i bs) (drop i bs)) ∙ ap (list_all is_ascii_digit) (take-append-drop i bs) ∙ all)

pub ten_pos : (k : ℕ) → 0 < 10 ^ k
ten_pos k = let least = one-le-pow k 10 (omega arith) in omega (arith, least)

-- digits of the number 0 are zeros
pub value_zeros : (bs : List ℕ) → list_all is_ascii_digit bs ≡ true → digits_value 10 bs ≡ 0 → list_all (λ b. b == 48) bs ≡ true
value_zeros [] all none = refl
value_zeros (b ∷ bs) all none =
    let both = and_split (is_ascii_digit b) (list_all is_ascii_digit bs) all in
    let worth = digit_worth b both.0 in
    let after : digits_value 10 (b ∷ bs) ≡ (0 * 10 + digit_value b) * 10 ^ length bs + digits_value 10 bs = value_after (0 * 10 + digit_value b) bs in
    let pos = ten_pos (length bs) in
    let rest : digits_value 10 bs ≡ 0 = omega (arith, after, none) in
    let first : (0 * 10 + digit_value b) * 10 ^ length bs ≡ 0 * 10 ^ length bs = omega (arith, after, none) in
    let worthless = eq_of_mul-eq-mul_right (10 ^ length bs) pos (0 * 10 + digit_value b) 0 first in
    let is : b ≡ 48 = omega (arith, worth, worthless) in
    rw is (value_zeros bs both.1 rest)

-- A cut after p digits: thirty, or all of them where they are fewer.
abbrev pub IsCut : ℕ → List ℕ → Type 0
IsCut p bs = (p ≤ 30) × (p + length (drop p bs) ≡ length bs) × ((p ≡ 30) ⊎ (length (drop p bs) ≡ 0))

pub cut_at_thirty : (p : ℕ) (bs : List ℕ) → p ≡ min (length bs) 30 → IsCut p bs
cut_at_thirty p bs is =
    let left = length-drop p bs in
    elim (cases_lt (length bs) 30) [
      | inl few ↦
          let all : p ≡ length bs = is ∙ min-eq_left (omega arith) in
          (omega arith, omega (arith, left), inr (omega (arith, left)))
      | inr many ↦
          let first : p ≡ 30 = is ∙ min-eq_right (omega arith) in
          (omega arith, omega (arith, left), inl first)
    ]

pub thirty : (p : ℕ) → p ≤ 30 → 10 ^ (30 - p) * 10 ^ p ≡ 10 ^ 30
thirty p few = let whole : (30 - p) + p ≡ 30 = omega arith in sym (pow-add 10 (30 - p) p) ∙ ap (λ k. 10 ^ k) whole

pub powers_cut : (p : ℕ) (bs : List ℕ) → IsCut p bs → 10 ^ length bs ≡ 10 ^ p * 10 ^ length (drop p bs)
powers_cut p bs cut = ap (λ k. 10 ^ k) (sym cut.1) ∙ pow-add 10 p (length (drop p bs))

pub units_found : (p : ℕ) (bs : List ℕ) → IsCut p bs → list_all (λ b. b == 48) (drop p bs) ≡ true
    → (digits_value 10 (take p bs) * 10 ^ (30 - p)) * 10 ^ length bs ≡ digits_value 10 bs * 10 ^ 30
units_found p bs cut zeros =
    let K : ℕ = digits_value 10 (take p bs) in
    let A : ℕ = 10 ^ (30 - p) in
    let P : ℕ = 10 ^ p in
    let R : ℕ = 10 ^ length (drop p bs) in
    let none = zeros_value (drop p bs) zeros in
    let value : digits_value 10 bs ≡ K * R = value_cut p bs ∙ ap (λ d. K * R + d) none ∙ omega arith in
    let swap : (k a q r : ℕ) → (k * a) * (q * r) ≡ (k * r) * (a * q) = λ k a q r. omega arith in
    ap (λ x. (K * A) * x) (powers_cut p bs cut) ∙ swap K A P R ∙ ap (λ x. (K * R) * x) (thirty p cut.0) ∙ ap (λ x. x * 10 ^ 30) (sym value)

-- a number below the step that a multiple is off by is no step at all
pub none_between : (n k r d : ℕ) → d < r → n * r ≡ k * r + d → d ≡ 0
none_between n k r d small same =
    sym (mod-mul-add k r d small) ∙ ap (λ x. x % r) (sym same ∙ omega arith) ∙ mod-mul-add n r 0 (omega arith)

pub units_need_zeros : (p : ℕ) (bs : List ℕ) → IsCut p bs → list_all is_ascii_digit bs ≡ true
    → (n : ℕ) → n * 10 ^ length bs ≡ digits_value 10 bs * 10 ^ 30 → list_all (λ b. b == 48) (drop p bs) ≡ true
units_need_zeros p bs cut all n same =
    let rest = (digits_cut p bs all).1 in
    let below = value_below (drop p bs) rest in
    let K : ℕ = digits_value 10 (take p bs) in
    let D : ℕ = digits_value 10 (drop p bs) in
    let R : ℕ = 10 ^ length (drop p bs) in
    let none : D ≡ 0 = elim (cut.2) [
      | inl full ↦
          let scaled : (n * R) * 10 ^ 30 ≡ (K * R + D) * 10 ^ 30 =
          (let swap : (m q r : ℕ) → (m * r) * q ≡ m * (q * r) = λ m q r. omega arith in
          swap n (10 ^ 30) R ∙ ap (λ k. n * (10 ^ k * R)) (sym full) ∙ ap (λ x. n * x) (sym (powers_cut p bs cut)) ∙ same ∙ ap (λ x. x * 10 ^ 30) (value_cut p bs)) in
          none_between n K R D below (eq_of_mul-eq-mul_right (10 ^ 30) (ten_pos 30) (n * R) (K * R + D) scaled)
      | inr empty ↦
          let one : R ≡ 1 = ap (λ k. 10 ^ k) empty in
          omega (arith, below, one)
    ] in
    value_zeros (drop p bs) rest none

-- the units of a fraction are one number
pub units_once : (k m n : ℕ) (v : ℕ) → m * 10 ^ k ≡ v → n * 10 ^ k ≡ v → m ≡ n
units_once k m n v first second = eq_of_mul-eq-mul_right (10 ^ k) (ten_pos k) m n (first ∙ sym second)

-- what an answer within a bound says
pub within_none : (v most : ℕ) → None ≡ (if leb v most then Some v else None) → most < v
within_none v most is = elim (cases_lt most v) [ inl above ↦ above | inr small ↦ (let test : leb v most ≡ true = grind (arith, nat_tests) in cc) ]

pub within_some : (v most n : ℕ) → Some n ≡ (if leb v most then Some v else None) → (n ≡ v) × (v ≤ most)
within_some v most n is = elim (cases_lt most v) [ inl above ↦ (let test : leb v most ≡ false = lt-leb v most above in cc) | inr small ↦ (let test : leb v most ≡ true = grind (arith, nat_tests) in (cc, small)) ]

-- the first digits of a cut are a number of less than one in units
pub first_below : (p : ℕ) (bs : List ℕ) → IsCut p bs → list_all is_ascii_digit bs ≡ true → digits_value 10 (take p bs) < 10 ^ p
first_below p bs cut all =
    let below = value_below (take p bs) (digits_cut p bs all).0 in
    let few = pow-le-pow_right {n = 10} (omega arith) {i = length (take p bs)} {j = p} (omega (arith, length-take p bs)) in
    omega (arith, below, few)

pub units_below : (p : ℕ) (bs : List ℕ) → IsCut p bs → list_all is_ascii_digit bs ≡ true → digits_value 10 (take p bs) * 10 ^ (30 - p) < 10 ^ 30
units_below p bs cut all =
    let below = first_below p bs cut all in
    let scaled : (digits_value 10 (take p bs) + 1) * 10 ^ (30 - p) ≤ 10 ^ p * 10 ^ (30 - p) = mul-le-mul_right (10 ^ (30 - p)) (omega (arith, below)) in
    let spread : (d a : ℕ) → (d + 1) * a ≡ d * a + a = λ d a. omega arith in
    let turned : 10 ^ p * 10 ^ (30 - p) ≡ 10 ^ (30 - p) * 10 ^ p = omega arith in
    let pos = ten_pos (30 - p) in
    omega (arith, scaled, spread (digits_value 10 (take p bs)) (10 ^ (30 - p)), turned, pos, thirty p cut.0)

pub first_in_one : (p : ℕ) (bs : List ℕ) → IsCut p bs → list_all is_ascii_digit bs ≡ true → digits_value 10 (take p bs) < 10 ^ 30
first_in_one p bs cut all =
    let below = first_below p bs cut all in
    let few = pow-le-pow_right {n = 10} (omega arith) {i = p} {j = 30} cut.0 in
    omega (arith, below, few)
