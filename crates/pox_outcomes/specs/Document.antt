-- What requests and answers have in common (LTI 1.1.1, section 6, and the schema imsoms_v1p0).
use Rattle.std.specs.Prelude.{ℕ, false, List, codes}
use Rattle.pox_outcomes.specs.Language.{◌▸◌}
use Rattle.pox_outcomes.specs.Markup.{IsWhite, IsMarkup}
use Rattle.pox_outcomes.specs.Attributes.{IsAttributes}
use Rattle.pox_outcomes.specs.Declaration.{IsOpening}
use Rattle.pox_outcomes.specs.Leaves.{IsLeaf}

abbrev pub message_end : List ℕ
message_end = codes "/imsx_messageIdentifier >"

-- A declaration or none, the root's start tag, and the header up to the end of the message identifier. The root's
-- name and the header up to the identifier's name are markup.
abbrev pub IsHead : List ℕ → List ℕ → List ℕ → List ℕ → Type 0
IsHead root header message = IsOpening root ▸ IsAttributes false ▸ IsMarkup header ▸ IsLeaf message_end message

-- the bytes are a string of the value, with any white bytes behind it
abbrev pub DocumentOf : {V : Type 0} → (V → List ℕ → Type 0) → List ℕ → V → Type 0
DocumentOf Root bytes v = (Root v ▸ IsWhite) bytes
