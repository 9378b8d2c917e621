-- The number of a text, put together of its whole part and its fraction.
use Rattle.std.proofs.Common.{◌≡◌, ℕ, ◌+◌, ◌-◌, ◌*◌, ◌^◌, ◌≤◌, true, List, length, arith, sym, ap, ◌∙◌, subst, IsTrue}
use Rattle.std.specs.List.{list_all}
use Rattle.std.specs.Char.{is_ascii_digit}
use Rattle.std.specs.Str.Parse.{digits_value}
use Rattle.std.proofs.Math.Nat.{eq_of_mul-eq-mul_right, le_of_mul-le-mul_right}
use Rattle.score_decimal.specs.Written.{IsWritten, whole_of, fraction_of}
use Rattle.score_decimal.proofs.FractionLemmas.{ten_pos}

pub number_is : (w u k v o : ℕ) → u * 10 ^ k ≡ v * o → (w * o + u) * 10 ^ k ≡ (w * 10 ^ k + v) * o
number_is w u k v o units =
    let swap : (a b c d : ℕ) → (a * b + c) * d ≡ (a * d) * b + c * d = λ a b c d. omega arith in
    let join : (a b c d : ℕ) → (a * d) * b + c * b ≡ (a * d + c) * b = λ a b c d. omega arith in
    swap w o u (10 ^ k) ∙ ap (λ x. (w * 10 ^ k) * o + x) units ∙ join w o v (10 ^ k)

pub written_once : (t : List ℕ) (n u : ℕ) → u * 10 ^ length (fraction_of t) ≡ digits_value 10 (fraction_of t) * 10 ^ 30 → IsWritten t n
    → n ≡ digits_value 10 (whole_of t) * 10 ^ 30 + u
written_once t n u units is =
    let k : ℕ = length (fraction_of t) in
    eq_of_mul-eq-mul_right (10 ^ k) (ten_pos k) n (digits_value 10 (whole_of t) * 10 ^ 30 + u)
    (is.number ∙ sym (number_is (digits_value 10 (whole_of t)) u k (digits_value 10 (fraction_of t)) (10 ^ 30) units))

pub written_least : (w n k v o : ℕ) → n * 10 ^ k ≡ (w * 10 ^ k + v) * o → w * o ≤ n
written_least w n k v o number =
    let more : (w * o) * 10 ^ k ≤ n * 10 ^ k = omega (arith, number) in
    le_of_mul-le-mul_right more (ten_pos k)

pub units_left : (w n k v o : ℕ) → w * o ≤ n → n * 10 ^ k ≡ (w * 10 ^ k + v) * o → (n - w * o) * 10 ^ k ≡ v * o
units_left w n k v o least number =
    let left : ℕ = n - w * o in
    let whole : n ≡ w * o + left = omega arith in
    let parts : (w * o + left) * 10 ^ k ≡ (w * 10 ^ k + v) * o = ap (λ x. x * 10 ^ k) (sym whole) ∙ number in
    omega (arith, parts)

-- a number that a text writes leaves the units of its fraction
pub written_units : (t : List ℕ) (n : ℕ) → IsWritten t n
    → (n - digits_value 10 (whole_of t) * 10 ^ 30) * 10 ^ length (fraction_of t) ≡ digits_value 10 (fraction_of t) * 10 ^ 30
written_units t n is =
    let k : ℕ = length (fraction_of t) in
    let w : ℕ = digits_value 10 (whole_of t) in
    let v : ℕ = digits_value 10 (fraction_of t) in
    let least = written_least w n k v (10 ^ 30) is.number in
    units_left w n k v (10 ^ 30) least is.number

-- a whole part of two or more is above the range
pub whole_small : (t : List ℕ) (n : ℕ) → IsWritten t n → digits_value 10 (whole_of t) ≤ 1
whole_small t n is =
    let least = written_least (digits_value 10 (whole_of t)) n (length (fraction_of t)) (digits_value 10 (fraction_of t)) (10 ^ 30) is.number in
    omega (arith, least, is.range)

-- The parts of a text with the facts that the reader tests.
pub record HasParts (t w f : List ℕ) : Type 0 where
  pub short : length t ≤ 40
  pub whole_is : w ≡ whole_of t
  pub fraction_is : f ≡ fraction_of t
  pub whole : list_all is_ascii_digit w ≡ true
  pub fraction : list_all is_ascii_digit f ≡ true
  pub digits : 1 ≤ length w + length f

pub written_found : (t w f : List ℕ) (u : ℕ) → HasParts t w f → u * 10 ^ length f ≡ digits_value 10 f * 10 ^ 30
    → digits_value 10 w * 10 ^ 30 + u ≤ 10 ^ 30 → IsWritten t (digits_value 10 w * 10 ^ 30 + u)
written_found t w f u parts units small =
    record {
      short = parts.short;
      whole = subst (λ (x : List ℕ). IsTrue (list_all is_ascii_digit x)) parts.whole_is parts.whole;
      fraction = subst (λ (x : List ℕ). IsTrue (list_all is_ascii_digit x)) parts.fraction_is parts.fraction;
      digits = subst (λ (x : List ℕ). 1 ≤ length (whole_of t) + length x) parts.fraction_is (subst (λ (x : List ℕ). 1 ≤ length x + length f) parts.whole_is parts.digits);
      number = subst (λ (x : List ℕ). (digits_value 10 w * 10 ^ 30 + u) * 10 ^ length x ≡ (digits_value 10 (whole_of t) * 10 ^ length x + digits_value 10 x) * 10 ^ 30) parts.fraction_is
          (number_is (digits_value 10 w) u (length f) (digits_value 10 f) (10 ^ 30) units
          ∙ ap (λ (x : List ℕ). (digits_value 10 x * 10 ^ length f + digits_value 10 f) * 10 ^ 30) parts.whole_is);
      range = small;
    }

pub written_same : (t w f : List ℕ) (u n : ℕ) → HasParts t w f → u * 10 ^ length f ≡ digits_value 10 f * 10 ^ 30 → IsWritten t n
    → n ≡ digits_value 10 w * 10 ^ 30 + u
written_same t w f u n parts units is =
    written_once t n u (subst (λ (x : List ℕ). u * 10 ^ length x ≡ digits_value 10 x * 10 ^ 30) parts.fraction_is units) is
    ∙ ap (λ (x : List ℕ). digits_value 10 x * 10 ^ 30 + u) (sym parts.whole_is)

-- a text that writes a number has units of its fraction
pub fraction_written : (t w f : List ℕ) (n : ℕ) → HasParts t w f → IsWritten t n
    → (n - digits_value 10 w * 10 ^ 30) * 10 ^ length f ≡ digits_value 10 f * 10 ^ 30
fraction_written t w f n parts is =
    subst (λ (x : List ℕ). (n - digits_value 10 w * 10 ^ 30) * 10 ^ length x ≡ digits_value 10 x * 10 ^ 30) (sym parts.fraction_is)
    (ap (λ (x : List ℕ). (n - digits_value 10 x * 10 ^ 30) * 10 ^ length (fraction_of t)) parts.whole_is ∙ written_units t n is)

pub whole_written : (t w f : List ℕ) (n : ℕ) → HasParts t w f → IsWritten t n → digits_value 10 w ≤ 1
whole_written t w f n parts is = subst (λ (x : List ℕ). digits_value 10 x ≤ 1) (sym parts.whole_is) (whole_small t n is)
