use Rattle.std.proofs.Common.{◌≡◌, ℕ, [], ◌++◌, List, length}
use Rattle.lti_outside.specs.Traffic.{Moves, no_fault}
use Rattle.lti_outside.proofs.ends.give_all.Given as goal

-- a front of the piece was given, and the rest is left
abbrev pub invariant-loop-rest : goal.invariant-loop-rest
invariant-loop-rest g l =
    (front : List ℕ) × (l.fn.piece ≡ front ++ l.rest) × Moves (g.O.Outside.traffic l.fn.sink) (g.O.Outside.traffic l.sink) [] front no_fault

abbrev pub decreases-loop-rest : goal.decreases-loop-rest
decreases-loop-rest g l = length l.rest
