-- The pieces that a mounting reads.
use Rattle.std.specs.Prelude.{ℕ, ◌+◌, List, [], ◌∷◌, length, map}
use Rattle.gate_journal.specs.declared.piece.Piece.{Piece}

-- the payloads of pieces
abbrev pub payloads_of : List Piece → List (List ℕ)
payloads_of pieces = map (λ piece. piece.payload.list) pieces

-- the places of the gates before payloads that begin at a place
abbrev pub places_from : ℕ → List (List ℕ) → List ℕ
places_from at [] = []
places_from at (payload ∷ payloads) = at ∷ places_from (at + 5 + length payload) payloads
