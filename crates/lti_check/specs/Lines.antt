-- The lines of the input (this project's own). std's `lines` says which they are: a line ends at LF and loses one
-- CR before it; what follows the last LF is a line where it isn't empty.
use Rattle.std.specs.Prelude.{◌≡◌, ◌⊎◌, ◌==◌, false, ℕ, List, [], ◌∷◌, ◌++◌, All}

-- no byte is LF
abbrev pub HasNoNewline : List ℕ → Type 0
HasNoNewline bytes = All (λ b. (b == 10) ≡ false) bytes

-- the bytes are whole lines, each with its LF
abbrev pub EndsLine : List ℕ → Type 0
EndsLine bytes = (bytes ≡ []) ⊎ ((front : List ℕ) × (bytes ≡ front ++ 10 ∷ []))
