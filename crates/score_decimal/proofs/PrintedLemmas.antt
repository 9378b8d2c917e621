-- The digits of a number in a count of places.
use Rattle.std.proofs.Common.{◌≡◌, ℕ, zero, suc, ◌+◌, ◌-◌, ◌/◌, ◌%◌, ◌^◌, ◌<◌, ◌≤◌, false, ◌==◌, List, [], ◌∷◌, ◌++◌, length, arith, take, set, inl, inr, append_assoc, ◌≢◌, length-set, sym, ap, ◌∙◌, refl}
use Rattle.std.proofs.lemmas.Bool.Decides.{nat_tests}
use Rattle.std.proofs.Math.Nat.{pow-suc, mul-div_cancel, div-lt_iff_lt-mul}
use Rattle.std.proofs.lemmas.Bool.{cases_lt, ne_eqb}
use Rattle.std.proofs.lemmas.List.{take_more_set}
use Rattle.score_decimal.specs.Printed.{digits_in, score_text}
use Rattle.score_decimal.proofs.FractionLemmas.{ten_pos}

pub digits_end : (k : ℕ) → digits_in k 0 ≡ []
unfolding digits_in
digits_end zero = refl
digits_end (suc k) = refl

pub digits_next : (k n : ℕ) → 0 < n → digits_in (suc k) n ≡ (48 + n / 10 ^ k) ∷ digits_in k (n % 10 ^ k)
unfolding digits_in
digits_next k n some = let test : (n == 0) ≡ false = grind (arith, nat_tests) in rw test refl

-- the weight of the first of k + 1 places
pub weight_next : (k : ℕ) → 10 ^ suc k / 10 ≡ 10 ^ k
weight_next k = ap (λ p. p / 10) (pow-suc 10 k) ∙ mul-div_cancel (10 ^ k) (omega arith)

pub digit_small : (k n : ℕ) → n < 10 ^ suc k → n / 10 ^ k < 10
digit_small k n small = (div-lt_iff_lt-mul (ten_pos k)).1 (omega (arith, small, pow-suc 10 k))

-- something left to write has a place left
pub place_left : (at rest : ℕ) → at ≤ 32 → rest < 10 ^ (32 - at) → 0 < rest → at < 32
place_left at rest within small some =
    elim (cases_lt at 32) [
      | inl less ↦ less
      | inr full ↦ (let none : 32 - at ≡ 0 = omega arith in let one : 10 ^ (32 - at) ≡ 1 = ap (λ k. 10 ^ k) none in absurd (omega (arith, one)))
    ]

pub weight_is : (at w : ℕ) → at < 32 → w ≡ 10 ^ (32 - at) / 10 → w ≡ 10 ^ (31 - at)
weight_is at w left is =
    let next : 32 - at ≡ suc (31 - at) = omega arith in
    is ∙ ap (λ k. 10 ^ k / 10) next ∙ weight_next (31 - at)

-- one digit written and the rest still to write are what was to write before
pub step_text : (at rest w : ℕ) (room old : List ℕ) (units : ℕ) → at < 32 → length room ≡ 32 → w ≡ 10 ^ (31 - at) → 0 < rest
    → take at room ++ digits_in (32 - at) rest ≡ take 2 old ++ digits_in 30 units
    → take (at + 1) (set room at (48 + rest / w)) ++ digits_in (32 - (at + 1)) (rest % w) ≡ take 2 old ++ digits_in 30 units
step_text at rest w room old units left full is some before =
    let next : 32 - at ≡ suc (31 - at) = omega arith in
    let after : 32 - (at + 1) ≡ 31 - at = omega arith in
    let digits : digits_in (32 - at) rest ≡ (48 + rest / w) ∷ digits_in (31 - at) (rest % w) =
    ap (λ k. digits_in k rest) next ∙ digits_next (31 - at) rest some ∙ ap (λ v. (48 + rest / v) ∷ digits_in (31 - at) (rest % v)) (sym is) in
    ap (λ x. x ++ digits_in (32 - (at + 1)) (rest % w)) (take_more_set room at (48 + rest / w) (omega arith))
    ∙ ap (λ k. (take at room ++ (48 + rest / w) ∷ []) ++ digits_in k (rest % w)) after
    ∙ append_assoc (take at room) ((48 + rest / w) ∷ []) (digits_in (31 - at) (rest % w))
    ∙ ap (λ x. take at room ++ x) (sym digits)
    ∙ before

pub text_zero : (n : ℕ) → n ≡ 0 → score_text n ≡ 48 ∷ []
unfolding score_text
text_zero n is = rw is refl

pub text_one : (n : ℕ) → n ≡ 10 ^ 30 → score_text n ≡ 49 ∷ []
unfolding score_text
text_one n is = rw is refl

pub text_between : (n : ℕ) → n ≢ 0 → n ≢ 10 ^ 30 → score_text n ≡ (48 ∷ 46 ∷ []) ++ digits_in 30 n
unfolding score_text
text_between n some less =
    let first : (n == 0) ≡ false = ne_eqb n 0 some in
    let second : (n == 10 ^ 30) ≡ false = ne_eqb n (10 ^ 30) less in
    rw (first, second) refl

pub one_byte : (room : List ℕ) (b : ℕ) → length room ≡ 32 → take 1 (set room 0 b) ≡ b ∷ []
one_byte room b full = take_more_set room 0 b (omega arith)

pub two_bytes : (room : List ℕ) (a b : ℕ) → length room ≡ 32 → take 2 (set (set room 0 a) 1 b) ≡ a ∷ b ∷ []
two_bytes room a b full =
    take_more_set (set room 0 a) 1 b (omega (arith, length-set room 0 a)) ∙ ap (λ x. x ++ b ∷ []) (one_byte room a full)
