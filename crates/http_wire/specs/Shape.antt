-- Where a head ends (RFC 9112, section 2.1).
use Rattle.std.specs.Prelude.{◌≡◌, ℕ, List, [], ◌∷◌, ◌++◌}

-- CR LF CR LF
abbrev pub head_end : List ℕ
head_end = 13 ∷ 10 ∷ 13 ∷ 10 ∷ []

-- no front of the bytes ends with CR LF CR LF
abbrev pub HasNoHead : List ℕ → Type 0
HasNoHead bytes = (front rest : List ℕ) → bytes ≡ (front ++ head_end) ++ rest → ⊥

-- the bytes end with CR LF CR LF, and no shorter front of them does
pub record IsHead (head : List ℕ) : Type 0 where
  pub front : List ℕ
  pub is : head ≡ front ++ head_end
  pub first : HasNoHead (front ++ 13 ∷ 10 ∷ 13 ∷ [])
