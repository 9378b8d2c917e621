-- Characters that XML 1.0 allows (section 2.2), in UTF-8 (RFC 3629, section 4).
use Rattle.std.specs.Prelude.{◌≡◌, ℕ, Bool, true, false, ◌&&◌, ◌||◌, ◌==◌, nat_le, List, [], ◌∷◌, slice_index_or, map}
use Rattle.std.specs.List.{list_all}
use Rattle.std.specs.Borrow.{Bor}
use Rattle.pox_outcomes.specs.Language.{Then, IsAmong}

-- the byte is from the first to the second of the range
abbrev pub is_within : ℕ × ℕ → ℕ → Bool
is_within range b = nat_le range.0 b && nat_le b range.1

-- one byte of the range
abbrev pub IsByteIn : ℕ × ℕ → List ℕ → Type 0
IsByteIn range bytes = (b : ℕ) × (bytes ≡ b ∷ []) × (is_within range b ≡ true)

-- one byte of each range
abbrev pub IsRow : List (ℕ × ℕ) → List ℕ → Type 0
IsRow [] bytes = bytes ≡ []
IsRow (range ∷ row) bytes = Then (IsByteIn range) (IsRow row) bytes

-- the bytes behind the first one of a character
abbrev pub tail : ℕ × ℕ
tail = (0x80, 0xBF)

-- the rows of bytes that are one character each: U+0020 to U+007F, tab and LF, CR, and so on to U+10FFFF, without the
-- surrogates, U+FFFE and U+FFFF
abbrev pub rows : List (List (ℕ × ℕ))
rows =
    ((0x20, 0x7F) ∷ [])
    ∷ ((0x09, 0x0A) ∷ [])
    ∷ ((0x0D, 0x0D) ∷ [])
    ∷ ((0xC2, 0xDF) ∷ tail ∷ [])
    ∷ ((0xE0, 0xE0) ∷ (0xA0, 0xBF) ∷ tail ∷ [])
    ∷ ((0xE1, 0xEC) ∷ tail ∷ tail ∷ [])
    ∷ ((0xED, 0xED) ∷ (0x80, 0x9F) ∷ tail ∷ [])
    ∷ ((0xEE, 0xEE) ∷ tail ∷ tail ∷ [])
    ∷ ((0xEF, 0xEF) ∷ (0x80, 0xBE) ∷ tail ∷ [])
    ∷ ((0xEF, 0xEF) ∷ (0xBF, 0xBF) ∷ (0x80, 0xBD) ∷ [])
    ∷ ((0xF0, 0xF0) ∷ (0x90, 0xBF) ∷ tail ∷ tail ∷ [])
    ∷ ((0xF1, 0xF3) ∷ tail ∷ tail ∷ tail ∷ [])
    ∷ ((0xF4, 0xF4) ∷ (0x80, 0x8F) ∷ tail ∷ tail ∷ [])
    ∷ []

-- the code of an allowed character
abbrev pub is_allowed : ℕ → Bool
is_allowed c =
    c == 0x9 || c == 0xA || c == 0xD || (nat_le 0x20 c && nat_le c 0xD7FF) || (nat_le 0xE000 c && nat_le c 0xFFFD) || (nat_le 0x10000 c && nat_le c 0x10FFFF)

-- the text begins with no byte of the range
abbrev pub BeginsBeside : ℕ × ℕ → List ℕ → Type 0
BeginsBeside range [] = Unit {0}
BeginsBeside range (b ∷ text) = is_within range b ≡ true → ⊥

-- each range has its first byte
abbrev pub are_ranges : List (ℕ × ℕ) → Bool
are_ranges row = list_all (λ range. is_within range range.0) row

-- the row at a place
abbrev pub row_at : List (List (ℕ × ℕ)) → ℕ → List (ℕ × ℕ)
row_at rows place = slice_index_or rows place []

-- the rows behind references
abbrev pub behind : List (Bor (List (ℕ × ℕ))) → List (List (ℕ × ℕ))
behind rows = map (λ row. row.now) rows

-- one allowed character
abbrev pub IsCharacter : List ℕ → Type 0
IsCharacter = IsAmong (λ place. IsRow (row_at rows place)) 13

-- the bytes begin with one that passes
abbrev pub begins : (ℕ → Bool) → List ℕ → Bool
begins P [] = false
begins P (b ∷ bytes) = P b

-- an allowed character whose first byte passes
pub record IsCharacterBy (P : ℕ → Bool) (bytes : List ℕ) : Type 0 where
  pub character : IsCharacter bytes
  pub first : begins P bytes ≡ true
