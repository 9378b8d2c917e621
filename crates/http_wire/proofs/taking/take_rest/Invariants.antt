use Rattle.std.proofs.Common.{◌≡◌, ◌≤◌, ◌+◌, ◌-◌, [], ◌++◌, List, ℕ, length}
use Rattle.lti_outside.specs.Traffic.{Moves, no_fault}
use Rattle.http_wire.proofs.taking.take_rest.Given as goal

abbrev pub invariant-pieces : goal.invariant-pieces
invariant-pieces g l = record {
  bytes : (read : List ℕ) × Moves (g.S.Outside.traffic l.fn.source) (g.S.Outside.traffic l.source) read [] no_fault × (l.fn.intake ++ read ≡ l.rest.list ++ l.intake);
  within : length l.rest.list ≤ l.most + 1;
}

abbrev pub decreases-pieces : goal.decreases-pieces
decreases-pieces g l = l.most + 1 - length l.rest.list
