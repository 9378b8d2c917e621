-- Which number a score text writes (LTI 1.1.1, Basic Outcomes service: a decimal number from 0.0 to 1.0). The
-- spellings, the 40 characters and the 30 places are this project's own rules.
use Rattle.std.specs.Prelude.{◌≡◌, ℕ, ◌+◌, ◌*◌, ◌^◌, ◌≤◌, List, length, IsTrue, ◌==◌}
use Rattle.std.specs.List.{list_all, before_first, after_first}
use Rattle.std.specs.Char.{is_ascii_digit}
use Rattle.std.specs.Str.Parse.{digits_value}

-- what stands before the first point, and what stands behind it
abbrev pub whole_of : List ℕ → List ℕ
whole_of text = before_first (λ b. b == 46) text

abbrev pub fraction_of : List ℕ → List ℕ
fraction_of text = after_first (λ b. b == 46) text

-- The text writes n units of 10^-30: at most 40 characters, digits around at most one point, and at
-- least one of them. Such a whole n exists exactly where the fraction without its trailing zeros has at
-- most 30 digits.
pub record IsWritten (text : List ℕ) (n : ℕ) : Type 0 where
  pub short : length text ≤ 40
  pub whole : IsTrue (list_all is_ascii_digit (whole_of text))
  pub fraction : IsTrue (list_all is_ascii_digit (fraction_of text))
  pub digits : 1 ≤ length (whole_of text) + length (fraction_of text)
  pub number : n * 10 ^ length (fraction_of text) ≡ (digits_value 10 (whole_of text) * 10 ^ length (fraction_of text) + digits_value 10 (fraction_of text)) * 10 ^ 30
  pub range : n ≤ 10 ^ 30
