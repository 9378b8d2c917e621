use Rattle.std.proofs.Common.{◌≡◌, ◌++◌, map, take}
use Rattle.std.specs.Int.{w64, to_be_bytes}
use Rattle.gate_journal.specs.Half.{blocks}
use Rattle.gate_journal.proofs.frames.pack.Given as goal

abbrev pub invariant-loop-piece : goal.invariant-loop-piece
invariant-loop-piece l = l.packed.list ≡ to_be_bytes w64 l.generation ++ blocks (map (λ piece. piece.list) (take l.piece-index l.pieces))
