-- Bytes in pieces.
use Rattle.std.specs.Prelude.{ℕ, ◌+◌, List, [], ◌++◌, map, take, drop, slice_index_or}
use Rattle.std.specs.List.{flat_map}
use Rattle.lti_outside.specs.Held.{Held}

-- the bytes of each piece
abbrev pub lists : List Held → List (List ℕ)
lists pieces = map (λ piece. piece.list) pieces

-- the pieces, one after another
abbrev pub joined : List (List ℕ) → List ℕ
joined pieces = flat_map (λ piece. piece) pieces

-- the piece at a place, which is empty past the end
abbrev pub piece_at : List (List ℕ) → ℕ → List ℕ
piece_at pieces place = slice_index_or pieces place []

-- the bytes before a place in a piece
abbrev pub before : List (List ℕ) → ℕ → ℕ → List ℕ
before pieces place at = joined (take place pieces) ++ take at (piece_at pieces place)

-- the bytes from a place in a piece on
abbrev pub from : List (List ℕ) → ℕ → ℕ → List ℕ
from pieces place at = drop at (piece_at pieces place) ++ joined (drop (place + 1) pieces)
