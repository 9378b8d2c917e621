-- The items of an Authorization header of the scheme OAuth, with their places.
use Rattle.std.specs.Prelude.{ℕ, ◌+◌, ◌-◌, Bool, false, not, ◌&&◌, ◌==◌, List, [], ◌∷◌, length, filter, map, if◌then◌else◌}
use Rattle.oauth_text.specs.Blanks.{trim_front, trim_end}

-- some bytes of the header's value, and the place in it where they begin
pub record Placed : Type 0 where
  pub at : ℕ
  pub bytes : List ℕ

-- a byte in front of the first piece
abbrev pub lengthen : ℕ → List (List ℕ) → List (List ℕ)
lengthen b [] = (b ∷ []) ∷ []
lengthen b (piece ∷ pieces) = (b ∷ piece) ∷ pieces

-- the text cut at each comma that has an even number of `"` before it, where `odd` says whether an odd number of them
-- stands before the text
unfoldable pub pieces : Bool → List ℕ → List (List ℕ)
pieces odd [] = [] ∷ []
pieces odd (b ∷ text) =
    if b == 44 && not odd
    then [] ∷ pieces false text
    else lengthen b (pieces (if b == 34 then not odd else odd) text)

-- each piece with its place, where the first begins at `at` and one byte stands between each two
abbrev pub placed : ℕ → List (List ℕ) → List Placed
placed at [] = []
placed at (piece ∷ pieces) = record { at = at; bytes = piece } ∷ placed (at + length piece + 1) pieces

-- without the spaces and tabs at both ends, where it then begins
abbrev pub trimmed : Placed → Placed
trimmed piece = record {
  at = piece.at + (length piece.bytes - length (trim_front piece.bytes));
  bytes = trim_end (trim_front piece.bytes);
}

abbrev pub is_nonempty : Placed → Bool
is_nonempty item = not (length item.bytes == 0)

-- the pieces, trimmed, without the empty ones
abbrev pub items_in : List Placed → List Placed
items_in pieces = filter is_nonempty (map trimmed pieces)

-- the items of a text that begins at the place, with an even number of `"` before it
abbrev pub items_from : ℕ → List ℕ → List Placed
items_from at text = items_in (placed at (pieces false text))
