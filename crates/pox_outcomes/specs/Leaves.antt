-- Elements that hold a text (XML 1.0, sections 3.1 and 4.1).
use Rattle.std.specs.Prelude.{ℕ, List, codes}
use Rattle.pox_outcomes.specs.Language.{◌▸◌}
use Rattle.pox_outcomes.specs.Markup.{IsMarkup}
use Rattle.pox_outcomes.specs.Texts.{IsText}
use Rattle.pox_outcomes.specs.Elements.{IsTag}

-- What stands behind `<` and the element's name: `/>` where the text is empty, or `>`, the text with the `<` of the
-- end tag, and the closing of the end tag, which is markup.
abbrev pub IsLeaf : List ℕ → List ℕ → List ℕ → Type 0
IsLeaf closing = IsTag (codes " >") (λ text. IsText text ▸ IsMarkup closing)
