-- Tags and names of elements (XML 1.0, sections 2.3 and 3.1).
use Rattle.std.specs.Prelude.{◌≡◌, ℕ, Bool, true, ◌||◌, ◌==◌, List, [], ◌∷◌, ◌⊎◌, codes, if◌then◌else◌}
use Rattle.std.specs.Char.{is_ascii_alphabetic, is_ascii_alphanumeric}
use Rattle.std.specs.List.{list_all}
use Rattle.pox_outcomes.specs.Language.{◌▸◌}
use Rattle.pox_outcomes.specs.Markup.{IsMarkup}
use Rattle.pox_outcomes.specs.Characters.{begins}

-- a letter, a digit or `_`
abbrev pub is_element_byte : ℕ → Bool
is_element_byte b = is_ascii_alphanumeric b || b == 95

-- what stands behind the bytes of a name in front
abbrev pub after_element_name : List ℕ → List ℕ
after_element_name [] = []
after_element_name (b ∷ bytes) = if is_element_byte b then after_element_name bytes else b ∷ bytes

-- the name of an element begins with a letter
pub record IsElementName (name : List ℕ) : Type 0 where
  pub start : begins is_ascii_alphabetic name ≡ true
  pub bytes : list_all is_element_byte name ≡ true

-- how an element goes on behind its name
abbrev pub tag_starts : List ℕ → List (List ℕ)
tag_starts start = codes " />" ∷ start ∷ []

-- What stands behind an element's name: `/>` where it holds nothing, or the start, which is markup, and what this set
-- says.
abbrev pub IsTag : List ℕ → (List ℕ → List ℕ → Type 0) → List ℕ → List ℕ → Type 0
IsTag start Inside text bytes = ((text ≡ []) × IsMarkup (codes " />") bytes) ⊎ (IsMarkup start ▸ Inside text) bytes

-- the end tag of the name, behind its `<`
abbrev pub IsEndTag : List ℕ → List ℕ → Type 0
IsEndTag name = IsMarkup (codes "/") ▸ IsMarkup name ▸ IsMarkup (codes " >")
