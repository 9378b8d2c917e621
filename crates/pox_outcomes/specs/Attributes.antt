-- The attributes of the root element (XML 1.0, sections 2.3 and 3.1).
use Rattle.std.specs.Prelude.{◌≡◌, ℕ, ◌<◌, Bool, true, not, ◌||◌, ◌==◌, List, [], ◌∷◌, ◌++◌, codes, if◌then◌else◌}
use Rattle.std.specs.Char.{is_ascii_alphabetic, is_ascii_alphanumeric}
use Rattle.std.specs.List.{list_all}
use Rattle.std.specs.Str.{bytes_eq}
use Rattle.pox_outcomes.specs.Language.{◌▸◌}
use Rattle.pox_outcomes.specs.Markup.{is_white, IsWhite, IsMarkup, word_at}
use Rattle.pox_outcomes.specs.Characters.{begins, IsCharacterBy}

abbrev pub is_name_start : ℕ → Bool
is_name_start b = is_ascii_alphabetic b || b == 95

-- a letter, a digit, `_`, `-`, `.` or `:`
abbrev pub is_name_byte : ℕ → Bool
is_name_byte b = is_ascii_alphanumeric b || b == 95 || b == 45 || b == 46 || b == 58

-- what stands behind the bytes of a name in front
abbrev pub after_name : List ℕ → List ℕ
after_name [] = []
after_name (b ∷ bytes) = if is_name_byte b then after_name bytes else b ∷ bytes

-- a name begins with a letter or `_`
pub record IsName (name : List ℕ) : Type 0 where
  pub start : begins is_name_start name ≡ true
  pub bytes : list_all is_name_byte name ≡ true

-- a byte of a value: any but `<`, `&` and the quote round the value
abbrev pub is_value_byte : ℕ → ℕ → Bool
is_value_byte quote b = not (b == 60 || b == 38 || b == quote)

-- a value behind its first quote, with the second: the quote, or a character and a value
pub data IsValue (quote : ℕ) : List ℕ → Type 0 where
  closes : {bytes : List ℕ} → bytes ≡ quote ∷ [] → IsValue quote bytes
  holds : {bytes : List ℕ} (character rest : List ℕ) → IsCharacterBy (is_value_byte quote) character → IsValue quote rest → bytes ≡ character ++ rest → IsValue quote bytes

-- a quote, with white bytes in front
abbrev pub quotes : List (List ℕ)
quotes = codes " \"" ∷ codes " '" ∷ []

abbrev pub quote_at : ℕ → ℕ
quote_at place = if place == 0 then 34 else 39

-- a value between two quotes of one kind
abbrev pub IsQuoted : List ℕ → Type 0
IsQuoted bytes = (place : ℕ) × (place < 2) × (IsMarkup (word_at quotes place) ▸ IsValue (quote_at place)) bytes

-- an attribute of the name
pub record IsAttribute (name bytes : List ℕ) : Type 0 where
  pub rest : List ℕ
  pub are : bytes ≡ name ++ rest
  pub name_is : IsName name
  pub value : (IsMarkup (codes " =") ▸ IsQuoted) rest

abbrev pub is_xmlns : List ℕ → Bool
is_xmlns name = bytes_eq name (codes "xmlns")

-- Attributes with white bytes in front of each, and the `>` of the tag. One of them is `xmlns`, unless it was seen
-- before.
pub data IsAttributes : Bool → List ℕ → Type 0 where
  ends : {seen : Bool} {bytes : List ℕ} → seen ≡ true → IsMarkup (codes " >") bytes → IsAttributes seen bytes
  goes : {seen : Bool} {bytes : List ℕ} (white name attribute rest : List ℕ) → IsWhite white → begins is_white white ≡ true → IsAttribute name attribute
      → IsAttributes (seen || is_xmlns name) rest → bytes ≡ white ++ (attribute ++ rest) → IsAttributes seen bytes

-- an attribute stands before the rest
pub record ReadsAttribute (bytes : List ℕ) (namespace : Bool) (rest : List ℕ) : Type 0 where
  pub name : List ℕ
  pub attribute : List ℕ
  pub are : bytes ≡ attribute ++ rest
  pub is : IsAttribute name attribute
  pub namespace_is : namespace ≡ is_xmlns name
