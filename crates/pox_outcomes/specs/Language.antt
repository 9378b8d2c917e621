-- Sets of byte strings, and how far some bytes go along with one.
use Rattle.std.specs.Prelude.{◌≡◌, ◌≢◌, ℕ, ◌<◌, ◌≤◌, List, [], ◌++◌, length}

-- a string of the first set, and behind it one of the second
pub record Then (A B : List ℕ → Type 0) (bytes : List ℕ) : Type 0 where
  pub front : List ℕ
  pub back : List ℕ
  pub are : bytes ≡ front ++ back
  pub first : A front
  pub second : B back

infixr 5 ◌▸◌
abbrev pub ◌▸◌ : (List ℕ → Type 0) → (List ℕ → Type 0) → List ℕ → Type 0
A ▸ B = Then A B

-- the bytes begin a string of the set
abbrev pub IsFront : (List ℕ → Type 0) → List ℕ → Type 0
IsFront L bytes = (more : List ℕ) × L (bytes ++ more)

-- No string of the set begins the bytes, and `left` bytes stand behind the longest front of one with which they
-- begin.
pub record StopsAt (L : List ℕ → Type 0) (bytes : List ℕ) (left : ℕ) : Type 0 where
  pub front : List ℕ
  pub rest : List ℕ
  pub are : bytes ≡ front ++ rest
  pub left_is : left ≡ length rest
  pub begins : IsFront L front
  pub apart : (p q r : List ℕ) → L (p ++ q) → bytes ≡ p ++ r → (left ≤ length r) × (q ≢ [])

-- a string of the set stands before the rest
pub record Reads (L : List ℕ → Type 0) (bytes rest : List ℕ) : Type 0 where
  pub front : List ℕ
  pub are : bytes ≡ front ++ rest
  pub is : L front

-- a string of one of the first sets
abbrev pub IsAmong : (ℕ → List ℕ → Type 0) → ℕ → List ℕ → Type 0
IsAmong A most bytes = (place : ℕ) × (place < most) × A place bytes

-- a string of some member of the family
abbrev pub Any : {V : Type 0} → (V → List ℕ → Type 0) → List ℕ → Type 0
Any {V = V} L bytes = (v : V) × L v bytes

-- a string of the family is of one value, and begins no other string of it
abbrev pub IsOnce : {V : Type 0} → (V → List ℕ → Type 0) → Type 0
IsOnce {V = V} L = (v w : V) (x y r s : List ℕ) → L v x → L w y → x ++ r ≡ y ++ s → (v ≡ w) × (x ≡ y)
