-- The XML declaration, and the start of the root element (XML 1.0, sections 2.8, 2.9 and 4.3.3).
use Rattle.std.specs.Prelude.{◌≡◌, ℕ, true, List, [], ◌∷◌, ◌⊎◌, ◌<◌, ◌==◌, MatchBool, codes}
use Rattle.pox_outcomes.specs.Language.{◌▸◌}
use Rattle.pox_outcomes.specs.Markup.{is_white, IsMarkup, IsOneOf, word_at}

abbrev pub IsOneWhite : List ℕ → Type 0
IsOneWhite bytes = (b : ℕ) × (bytes ≡ b ∷ []) × (is_white b ≡ true)

-- `utf-8` in any case
abbrev pub encodings : List (List ℕ)
encodings =
    codes "UTF-8" ∷ codes "utf-8" ∷ codes "Utf-8" ∷ codes "uTf-8" ∷ codes "utF-8" ∷ codes "UTf-8" ∷ codes "UtF-8" ∷ codes "uTF-8" ∷ []

-- the end of the declaration, with or without `standalone`
abbrev pub closings : List (List ℕ)
closings =
    codes " ?>" ∷ codes " standalone = \"yes\" ?>" ∷ codes " standalone = 'yes' ?>" ∷ codes " standalone = \"no\" ?>" ∷ codes " standalone = 'no' ?>" ∷ []

-- `?>`, or a white byte and one of the closings
abbrev pub IsClosing : List ℕ → Type 0
IsClosing bytes = IsMarkup (codes "?>") bytes ⊎ (IsOneWhite ▸ IsOneOf closings 5) bytes

-- the name of the encoding, its second quote and the end of the declaration
abbrev pub IsEncoding : List ℕ → List ℕ → Type 0
IsEncoding quote = IsOneOf encodings 8 ▸ IsMarkup quote ▸ IsClosing

-- what may stand behind the version
abbrev pub parts : List (List ℕ)
parts = codes " encoding = \"" ∷ codes " encoding = '" ∷ closings

abbrev pub IsPart : ℕ → List ℕ → Type 0
IsPart place bytes = MatchBool (place == 0) (IsEncoding (codes "\"") bytes) (MatchBool (place == 1) (IsEncoding (codes "'") bytes) (bytes ≡ []))

abbrev pub IsAfterVersion : List ℕ → Type 0
IsAfterVersion bytes =
    IsMarkup (codes "?>") bytes ⊎ (IsOneWhite ▸ (λ bytes. (place : ℕ) × (place < 7) × (IsMarkup (word_at parts place) ▸ IsPart place) bytes)) bytes

abbrev pub versions : List (List ℕ)
versions = codes " version = \"1.0\"" ∷ codes " version = '1.0'" ∷ []

-- the declaration behind `<?xml`
abbrev pub IsDeclaration : List ℕ → Type 0
IsDeclaration = IsOneWhite ▸ IsOneOf versions 2 ▸ IsAfterVersion

-- A declaration or none, and the start of the root element up to its name. The root is markup.
abbrev pub IsOpening : List ℕ → List ℕ → Type 0
IsOpening root bytes = (IsMarkup (codes "<?xml") ▸ IsDeclaration ▸ IsMarkup root) bytes ⊎ IsMarkup root bytes
