-- Leaves that may be left out.
use Rattle.std.specs.Prelude.{◌≡◌, ℕ, ◌<◌, ◌==◌, List, [], length, ◌⊎◌, MatchBool}
use Rattle.pox_outcomes.specs.Language.{◌▸◌, Any, Reads}
use Rattle.pox_outcomes.specs.Markup.{IsMarkup, word_at}
use Rattle.pox_outcomes.specs.Leaves.{IsLeaf}

-- a word and a leaf or neither, and what stands behind them; the text of a leaf that is left out is empty
abbrev pub IsOptional : List ℕ → List ℕ → List ℕ → (List ℕ → Type 0) → List ℕ → Type 0
IsOptional word closing text next bytes = (IsMarkup word ▸ IsLeaf closing text ▸ next) bytes ⊎ ((text ≡ []) × next bytes)

abbrev pub IsBehindWord : List ℕ → ℕ → List ℕ → Type 0
IsBehindWord closing place bytes = MatchBool (place == 0) (Any (IsLeaf closing) bytes) (bytes ≡ [])

-- the first word and a leaf of any text, or another of the words
abbrev pub IsOptionalFront : List (List ℕ) → List ℕ → List ℕ → Type 0
IsOptionalFront words closing bytes = (place : ℕ) × (place < length words) × (IsMarkup (word_at words place) ▸ IsBehindWord closing place) bytes

-- the bytes begin with a word behind the first
abbrev pub BeginsBehind : List (List ℕ) → List ℕ → Type 0
BeginsBehind words bytes = (place : ℕ) × (0 < place) × (place < length words) × (last : List ℕ) × Reads (IsMarkup (word_at words place)) bytes last

-- The first word and a leaf of the text stand before the rest, or another word stands there and nothing was read.
abbrev pub ReadsOptional : List (List ℕ) → List ℕ → List ℕ → List ℕ → List ℕ → Type 0
ReadsOptional words closing text bytes rest =
    Reads (IsMarkup (word_at words 0) ▸ IsLeaf closing text) bytes rest ⊎ ((text ≡ []) × (rest ≡ bytes) × BeginsBehind words bytes)
