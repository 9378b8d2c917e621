-- The body of an answer (LTI 1.1.1, section 6, and the schema imsoms_v1p0). In markup a space stands for any white
-- bytes.
use Rattle.std.specs.Prelude.{◌≡◌, ℕ, List, [], ◌∷◌, ◌++◌, ◌⊎◌, codes}
use Rattle.pox_outcomes.specs.Language.{◌▸◌}
use Rattle.pox_outcomes.specs.Markup.{IsMarkup}
use Rattle.pox_outcomes.specs.Scores.{IsScored}
use Rattle.pox_outcomes.specs.Elements.{IsElementName, IsTag, IsEndTag}

-- the element that may hold a score
abbrev pub read_result : List ℕ
read_result = codes "readResultResponse"

-- from behind its first `<` up to the text string, with or without a language
abbrev pub results : List (List ℕ)
results = codes "result > <resultScore > <language" ∷ codes "result > <resultScore > <textString" ∷ []

abbrev pub result_end : List ℕ
result_end = codes " </resultScore > </result > </readResultResponse >"

-- what stands behind the first `<` inside of an element: its end tag, or a result with a score
abbrev pub IsInside : List ℕ → List ℕ → List ℕ → Type 0
IsInside name score bytes = ((score ≡ []) × IsEndTag name bytes) ⊎ ((name ≡ read_result) × IsScored results result_end score bytes)

-- an element from its name on: without content and without a score, or a readResultResponse with one
pub record IsElement (score bytes : List ℕ) : Type 0 where
  pub name : List ℕ
  pub rest : List ℕ
  pub are : bytes ≡ name ++ rest
  pub name_is : IsElementName name
  pub behind : IsTag (codes " > <") (IsInside name) score rest

-- what stands behind the first `<` inside of the body: its end tag, or one element and the end tag
abbrev pub IsContent : List ℕ → List ℕ → Type 0
IsContent score bytes = ((score ≡ []) × IsMarkup (codes "/imsx_POXBody >") bytes) ⊎ (IsElement score ▸ IsMarkup (codes " </imsx_POXBody >")) bytes

-- the body from behind its name on
abbrev pub IsBody : List ℕ → List ℕ → Type 0
IsBody = IsTag (codes " > <") IsContent
