-- A score's text with its language (LTI 1.1.1, section 6, and the schema imsoms_v1p0).
use Rattle.std.specs.Prelude.{ℕ, List, ◌⊎◌, codes}
use Rattle.pox_outcomes.specs.Language.{◌▸◌, Any}
use Rattle.pox_outcomes.specs.Markup.{IsMarkup, word_at}
use Rattle.pox_outcomes.specs.Leaves.{IsLeaf}

-- a text string, and markup behind it
abbrev pub IsTextString : List ℕ → List ℕ → List ℕ → Type 0
IsTextString closing score = IsLeaf (codes "/textString >") score ▸ IsMarkup closing

-- a language of any text, and a text string
abbrev pub IsBehindLanguage : List ℕ → List ℕ → List ℕ → Type 0
IsBehindLanguage closing score = Any (IsLeaf (codes "/language >")) ▸ IsMarkup (codes " <textString") ▸ IsTextString closing score

-- the first word and a language, or the second word; and the text string with the markup behind it
abbrev pub IsScored : List (List ℕ) → List ℕ → List ℕ → List ℕ → Type 0
IsScored words closing score bytes =
    (IsMarkup (word_at words 0) ▸ IsBehindLanguage closing score) bytes ⊎ (IsMarkup (word_at words 1) ▸ IsTextString closing score) bytes
