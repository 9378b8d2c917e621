-- Sums over a list, and counts of numbers.
use Rattle.std.specs.Prelude.{ℕ, ◌+◌, List, [], ◌∷◌, Bool, true, false, ◌==◌, nat_lt}

-- f of each, added up
abbrev pub total : {V : Type 0} → (V → ℕ) → List V → ℕ
total f [] = 0
total f (v ∷ vs) = f v + total f vs

abbrev pub one_if : Bool → ℕ
one_if true = 1
one_if false = 0

-- how often x stands in the list
abbrev pub times : ℕ → List ℕ → ℕ
times x xs = total (λ y. one_if (y == x)) xs

-- 1 where x is below n, and else 0: what counts each number below n once, and no other
abbrev pub once_below : ℕ → ℕ → ℕ
once_below x n = one_if (nat_lt x n)
