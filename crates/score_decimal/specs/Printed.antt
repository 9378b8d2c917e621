-- The one text that a score is printed as.
use Rattle.std.specs.Prelude.{ℕ, zero, suc, ◌+◌, ◌/◌, ◌%◌, ◌^◌, ◌==◌, if◌then◌else◌, List, [], ◌∷◌, ◌++◌, codes}

-- The digits of n in k places, without the zeros at their end.
unfoldable pub digits_in : ℕ → ℕ → List ℕ
digits_in zero n = []
digits_in (suc k) n = if n == 0 then [] else (48 + n / 10 ^ k) ∷ digits_in k (n % 10 ^ k)

-- `0`, `1`, or `0.` and the fraction without the zeros at its end
unfoldable pub score_text : ℕ → List ℕ
score_text n = if n == 0 then codes "0" else (if n == 10 ^ 30 then codes "1" else codes "0." ++ digits_in 30 n)
