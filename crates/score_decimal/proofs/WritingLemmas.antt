-- What a printed text writes.
use Rattle.std.proofs.Common.{◌≡◌, ℕ, zero, suc, ◌+◌, ◌-◌, ◌*◌, ◌/◌, ◌%◌, ◌^◌, ◌<◌, ◌≤◌, true, List, [], ◌∷◌, ◌++◌, length, arith, inl, inr, sym, ap, subst, ◌∙◌, refl, ◌≢◌, ◌↔◌}
use Rattle.std.specs.List.{list_all}
use Rattle.std.specs.Char.{is_ascii_digit, digit_value}
use Rattle.std.specs.Str.Parse.{digits_value}
use Rattle.std.proofs.lemmas.Bool.{cases_lt}
use Rattle.std.proofs.lemmas.Bool.Decides.{nat_tests}
use Rattle.std.proofs.Math.Nat.{mod-lt, eq_of_mul-eq-mul_right}
use Rattle.std.proofs.lemmas.Nat.{pow-add}
use Rattle.std.specs.Str.{IsAscii}
use Rattle.std.proofs.lemmas.Str.Ascii.{IsAscii-nil, IsAscii-cons}
use Rattle.std.proofs.lemmas.Fmt.{IsAscii-from_digits}
use Rattle.lti_outside.proofs.DigitLemmas.{digit_worth}
use Rattle.score_decimal.specs.Printed.{digits_in, score_text}
use Rattle.score_decimal.specs.Written.{IsWritten, fraction_of}
use Rattle.score_decimal.proofs.DigitSums.{value_after}
use Rattle.score_decimal.proofs.FractionLemmas.{ten_pos, thirty, all_digits}
use Rattle.score_decimal.proofs.PrintedLemmas.{digits_end, digits_next, digit_small, text_zero, text_one, text_between}

-- ds are the first digits of n in k places, and the others are zeros
pub record AreDigits (k n : ℕ) (ds : List ℕ) : Type 0 where
  pub fits : length ds ≤ k
  pub value : digits_value 10 ds * 10 ^ (k - length ds) ≡ n
  pub digits : list_all is_ascii_digit ds ≡ true

pub digit_is : (d : ℕ) → d < 10 → is_ascii_digit (48 + d) ≡ true
digit_is d small = grind (arith, nat_tests)

pub no_digits : (k n : ℕ) → n ≡ 0 → AreDigits k n []
no_digits k n none = record { fits = omega arith; value = omega arith; digits = refl }

pub one_more : (k n q r : ℕ) (ds : List ℕ) → q < 10 → n ≡ q * 10 ^ k + r → AreDigits k r ds → AreDigits (suc k) n ((48 + q) ∷ ds)
one_more k n q r ds small parts rest =
    let test = digit_is q small in
    let worth = digit_worth (48 + q) test in
    let digit : digit_value (48 + q) ≡ q = omega (arith, worth.2) in
    let after : digits_value 10 ((48 + q) ∷ ds) ≡ (0 * 10 + digit_value (48 + q)) * 10 ^ length ds + digits_value 10 ds = value_after (0 * 10 + digit_value (48 + q)) ds in
    let value : digits_value 10 ((48 + q) ∷ ds) ≡ q * 10 ^ length ds + digits_value 10 ds =
    after ∙ ap (λ d. (0 * 10 + d) * 10 ^ length ds + digits_value 10 ds) digit ∙ omega arith in
    let places : k ≡ length ds + (k - length ds) = omega (arith, rest.fits) in
    let power : 10 ^ k ≡ 10 ^ length ds * 10 ^ (k - length ds) = ap (λ x. 10 ^ x) places ∙ pow-add 10 (length ds) (k - length ds) in
    let left : suc k - suc (length ds) ≡ k - length ds = omega arith in
    let spread : (a b c d : ℕ) → (a * b + c) * d ≡ a * (b * d) + c * d = λ a b c d. omega arith in
    record {
      fits = omega (arith, rest.fits);
      value =
          ap (λ x. digits_value 10 ((48 + q) ∷ ds) * 10 ^ x) left
          ∙ ap (λ v. v * 10 ^ (k - length ds)) value
          ∙ spread q (10 ^ length ds) (digits_value 10 ds) (10 ^ (k - length ds))
          ∙ ap (λ p. q * p + digits_value 10 ds * 10 ^ (k - length ds)) (sym power)
          ∙ ap (λ v. q * 10 ^ k + v) rest.value
          ∙ sym parts;
      digits = rw test rest.digits;
    }

pub digits_are : (k n : ℕ) → n < 10 ^ k → AreDigits k n (digits_in k n)
digits_are zero n small =
    let none : n ≡ 0 = omega arith in
    subst (λ (ds : List ℕ). AreDigits zero n ds) (sym (ap (digits_in zero) none ∙ digits_end zero)) (no_digits zero n none)
digits_are (suc k) n small =
    elim (cases_lt 0 n) [
      | inl some ↦
          (let below = mod-lt n (ten_pos k) in
          let parts : n ≡ n / 10 ^ k * 10 ^ k + n % 10 ^ k = omega (arith, ten_pos k) in
          subst (λ (ds : List ℕ). AreDigits (suc k) n ds) (sym (digits_next k n some))
          (one_more k n (n / 10 ^ k) (n % 10 ^ k) (digits_in k (n % 10 ^ k)) (digit_small k n small) parts (digits_are k (n % 10 ^ k) below)))
      | inr least ↦
          (let none : n ≡ 0 = omega arith in
          subst (λ (ds : List ℕ). AreDigits (suc k) n ds) (sym (ap (digits_in (suc k)) none ∙ digits_end (suc k))) (no_digits (suc k) n none))
    ]

-- `0.` and the digits write the number
pub fraction_read : (n : ℕ) (ds : List ℕ) → AreDigits 30 n ds → n ≤ 10 ^ 30 → IsWritten ((48 ∷ 46 ∷ []) ++ ds) n
fraction_read n ds are range =
    let swap : (v a p : ℕ) → (v * a) * p ≡ v * (a * p) = λ v a p. omega arith in
    let number : n * 10 ^ length ds ≡ digits_value 10 ds * 10 ^ 30 =
    ap (λ x. x * 10 ^ length ds) (sym are.value)
    ∙ swap (digits_value 10 ds) (10 ^ (30 - length ds)) (10 ^ length ds)
    ∙ ap (λ x. digits_value 10 ds * x) (thirty (length ds) are.fits) in
    record {
      short = omega (arith, are.fits);
      whole = refl;
      fraction = are.digits;
      digits = omega arith;
      number = number ∙ omega arith;
      range = range;
    }

pub text_ascii : (n : ℕ) → n ≤ 10 ^ 30 → IsAscii (score_text n)
text_ascii n range =
    elim (cases_lt 0 n) [
      | inr least ↦ (let none : n ≡ 0 = omega arith in rw (text_zero n none) (IsAscii-cons 48 [] (omega arith) IsAscii-nil))
      | inl some ↦ elim (cases_lt n (10 ^ 30)) [
        | inr most ↦ (let one : n ≡ 10 ^ 30 = omega arith in rw (text_one n one) (IsAscii-cons 49 [] (omega arith) IsAscii-nil))
        | inl less ↦
            (let some' : n ≢ 0 = λ none. omega arith in
            let less' : n ≢ 10 ^ 30 = λ most. omega arith in
            rw (text_between n some' less')
            (IsAscii-cons 48 (46 ∷ digits_in 30 n) (omega arith) (IsAscii-cons 46 (digits_in 30 n) (omega arith)
            (IsAscii-from_digits (digits_in 30 n) (all_digits (digits_in 30 n) (digits_are 30 n less).digits)))))
      ]
    ]

-- the text of a score writes that score
pub text_written : (n : ℕ) → n ≤ 10 ^ 30 → IsWritten (score_text n) n
text_written n range =
    elim (cases_lt 0 n) [
      | inr least ↦
          (let none : n ≡ 0 = omega arith in
          rw (text_zero n none, none) (record { short = omega arith; whole = refl; fraction = refl; digits = omega arith; number = omega arith; range = omega arith }))
      | inl some ↦ elim (cases_lt n (10 ^ 30)) [
        | inr most ↦
            (let one : n ≡ 10 ^ 30 = omega arith in
            rw (text_one n one, one) (record { short = omega arith; whole = refl; fraction = refl; digits = omega arith; number = refl; range = omega arith }))
        | inl less ↦
            (let some' : n ≢ 0 = λ none. omega arith in
            let less' : n ≢ 10 ^ 30 = λ most. omega arith in
            rw (text_between n some' less') (fraction_read n (digits_in 30 n) (digits_are 30 n less) range))
      ]
    ]

-- a text writes one number at most
pub number_once : (t : List ℕ) (m n : ℕ) → IsWritten t m → IsWritten t n → m ≡ n
number_once t m n first second =
    eq_of_mul-eq-mul_right (10 ^ length (fraction_of t)) (ten_pos (length (fraction_of t))) m n (first.number ∙ sym second.number)

-- a text that is the text of a score writes that score, and no other
pub text_writes : (t : List ℕ) (n : ℕ) → t ≡ score_text n → n ≤ 10 ^ 30 → (m : ℕ) → IsWritten t m ↔ m ≡ n
text_writes t n is range m =
    let own : IsWritten t n = subst (λ (x : List ℕ). IsWritten x n) (sym is) (text_written n range) in
    ((λ other. number_once t m n other own), (λ same. subst (λ (x : ℕ). IsWritten t x) (sym same) own))
