use Rattle.std.proofs.Common.{◌≡◌, ℕ, List, [], ◌++◌, take}
use Rattle.lti_outside.specs.Traffic.{Moves, no_fault}
use Rattle.http_wire.specs.Pieces.{joined}
use Rattle.http_wire.proofs.gather.give_pieces.Given as goal

-- the pieces so far were given, but for what the draft holds
abbrev pub invariant-loop-piece : goal.invariant-loop-piece
invariant-loop-piece g l =
    (given : List ℕ) × Moves (g.O.Outside.traffic l.fn.sink) (g.O.Outside.traffic l.sink) [] given no_fault
    × (joined (take l.piece-index l.pieces) ≡ given ++ l.draft)
