use Rattle.std.proofs.Common.{◌≡◌, ◌+◌, false, drop}
use Rattle.oauth_header.specs.Pieces.{piece_len}
use Rattle.oauth_header.proofs.pieces.first_piece_len.Given as goal

-- no byte so far ends the piece
abbrev pub invariant-loop-place : goal.invariant-loop-place
invariant-loop-place l = piece_len false l.text ≡ l.place + piece_len l.odd (drop l.place l.text)
