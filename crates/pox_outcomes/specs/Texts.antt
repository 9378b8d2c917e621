-- The text of an element (XML 1.0, sections 2.2, 2.4 and 4.1).
use Rattle.std.specs.Prelude.{◌≡◌, ℕ, Bool, true, not, ◌||◌, ◌==◌, List, [], ◌++◌, ◌⊎◌, codes, encode_utf8}
use Rattle.std.specs.List.{list_all}
use Rattle.pox_outcomes.specs.Language.{◌▸◌}
use Rattle.pox_outcomes.specs.Markup.{is_white, IsWhite}
use Rattle.pox_outcomes.specs.Characters.{IsCharacterBy}
use Rattle.pox_outcomes.specs.References.{IsReference}

-- a byte that stands for itself outside of gaps: any but white ones, `<` and `&`
abbrev pub is_literal : ℕ → Bool
is_literal b = not (is_white b || b == 60 || b == 38)

-- a character that stands for itself
abbrev pub IsLiteral : List ℕ → Type 0
IsLiteral = IsCharacterBy is_literal

-- what is no white byte of a text: a character that stands for itself, or a reference. Some UTF-8 is spelled by the
-- bytes
abbrev pub IsUnit : List ℕ → List ℕ → Type 0
IsUnit text bytes = (IsLiteral bytes × (bytes ≡ text)) ⊎ ((code : ℕ) × (text ≡ encode_utf8 code) × IsReference code bytes)

-- spaces, tabs and LF, which stand for themselves inside of a text
abbrev pub is_gap : ℕ → Bool
is_gap b = b == 32 || b == 9 || b == 10

abbrev pub IsGap : List ℕ → Type 0
IsGap bytes = list_all is_gap bytes ≡ true

-- The rest of a text behind a unit: white bytes and the `<` of the end tag, or a gap, a unit and a rest.
pub data IsRest : List ℕ → List ℕ → Type 0 where
  ends : {text bytes : List ℕ} (white : List ℕ) → IsWhite white → bytes ≡ white ++ codes "<" → text ≡ [] → IsRest text bytes
  goes : {text bytes : List ℕ} (gap here unit others rest : List ℕ) → IsGap gap → IsUnit here unit → IsRest others rest → bytes ≡ gap ++ (unit ++ rest) → text ≡ gap ++ (here ++ others) → IsRest text bytes

-- a unit and the rest behind it
pub record IsUnits (text bytes : List ℕ) : Type 0 where
  pub here : List ℕ
  pub unit : List ℕ
  pub others : List ℕ
  pub rest : List ℕ
  pub is : IsUnit here unit
  pub behind : IsRest others rest
  pub are : bytes ≡ unit ++ rest
  pub text_is : text ≡ here ++ others

-- The text that the bytes spell, with white bytes round it, up to and with the `<` of the end tag.
abbrev pub IsBegun : List ℕ → List ℕ → Type 0
IsBegun text bytes = ((text ≡ []) × (bytes ≡ codes "<")) ⊎ IsUnits text bytes

abbrev pub IsText : List ℕ → List ℕ → Type 0
IsText text = IsWhite ▸ IsBegun text

-- A unit stands before the rest, and what it spells is appended.
pub record Pushes (old new bytes rest : List ℕ) : Type 0 where
  pub here : List ℕ
  pub unit : List ℕ
  pub are : bytes ≡ unit ++ rest
  pub is : IsUnit here unit
  pub new_is : new ≡ old ++ here

-- A gap stands before the rest, and is appended.
pub record PushesGap (old new bytes rest : List ℕ) : Type 0 where
  pub gap : List ℕ
  pub are : bytes ≡ gap ++ rest
  pub is : IsGap gap
  pub new_is : new ≡ old ++ gap
