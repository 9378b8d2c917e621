-- Where bytes stop being a document.
use Rattle.std.specs.Prelude.{ℕ, ◌≤◌, List, ◌++◌, take, length}

-- the bytes begin a document of some value
abbrev pub Begins : {V : Type 0} → (List ℕ → V → Type 0) → List ℕ → Type 0
Begins {V = V} Of bytes = (more : List ℕ) × (v : V) × Of (bytes ++ more) v

-- The bytes are a document of no value, and `at` is the greatest number of them that begin one.
pub record IsBadAt {V : Type 0} (Of : List ℕ → V → Type 0) (bytes : List ℕ) (at : ℕ) : Type 0 where
  pub none : (v : V) → Of bytes v → ⊥
  pub within : at ≤ length bytes
  pub begins : Begins Of (take at bytes)
  pub longest : (n : ℕ) → n ≤ length bytes → Begins Of (take n bytes) → n ≤ at
