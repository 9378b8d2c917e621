-- References to characters (XML 1.0, sections 4.1 and 4.6).
use Rattle.std.specs.Prelude.{◌≡◌, ℕ, ◌+◌, ◌*◌, ◌<◌, ◌≤◌, Bool, true, ◌==◌, nat_lt, List, [], ◌∷◌, ◌++◌, slice_index, MatchBool, codes, ◌⊎◌}
use Rattle.std.specs.Char.{digit_value}
use Rattle.std.specs.List.{list_all}
use Rattle.pox_outcomes.specs.Language.{◌▸◌}
use Rattle.pox_outcomes.specs.Markup.{IsMarkup, word_at}
use Rattle.pox_outcomes.specs.Characters.{is_allowed}

abbrev pub is_digit : ℕ → ℕ → Bool
is_digit base b = nat_lt (digit_value b) base

-- the number that the digits spell behind others that spell `value`
abbrev pub number_from : ℕ → ℕ → List ℕ → ℕ
number_from base value [] = value
number_from base value (digit ∷ digits) = number_from base (value * base + digit_value digit) digits

-- digits and a semicolon that spell, behind other digits, the code of an allowed character
pub record IsNumber (base value code : ℕ) (bytes : List ℕ) : Type 0 where
  pub digits : List ℕ
  pub are : bytes ≡ digits ++ codes ";"
  pub in_base : list_all (is_digit base) digits ≡ true
  pub spells : code ≡ number_from base value digits
  pub allowed : is_allowed code ≡ true

abbrev pub IsNumeral : ℕ → List ℕ → Type 0
IsNumeral code bytes = (IsMarkup (codes "x") ▸ IsNumber 16 0 code) bytes ⊎ IsNumber 10 0 code bytes

-- how a reference begins: by a name, or for a number
abbrev pub openings : List (List ℕ)
openings = codes "&lt;" ∷ codes "&gt;" ∷ codes "&amp;" ∷ codes "&apos;" ∷ codes "&quot;" ∷ codes "&#" ∷ []

-- the characters of the names
abbrev pub named : List ℕ
named = codes "<>&'\""

-- what stands behind an opening
abbrev pub IsClosing : ℕ → ℕ → List ℕ → Type 0
IsClosing place code bytes = MatchBool (place == 5) (IsNumeral code bytes) ((code ≡ slice_index named place) × (bytes ≡ []))

-- a reference to the character of the code
abbrev pub IsReference : ℕ → List ℕ → Type 0
IsReference code bytes = (place : ℕ) × (place < 6) × (IsMarkup (word_at openings place) ▸ IsClosing place code) bytes

-- no digit goes on with the number
abbrev pub EndsNumber : ℕ → ℕ → List ℕ → Type 0
EndsNumber base value [] = Unit {0}
EndsNumber base value (b ∷ bytes) = is_digit base b ≡ true → value * base + digit_value b ≤ 0x10FFFF → ⊥

-- a digit goes on with the number, and some bytes stand behind it
pub record GoesOn (base value next : ℕ) (bytes rest : List ℕ) : Type 0 where
  pub digit : ℕ
  pub are : bytes ≡ digit ∷ rest
  pub in_base : is_digit base digit ≡ true
  pub next_is : next ≡ value * base + digit_value digit
  pub most : next ≤ 0x10FFFF
