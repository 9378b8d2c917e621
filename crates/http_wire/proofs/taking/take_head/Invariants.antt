use Rattle.std.proofs.Common.{◌≡◌, ◌≤◌, ◌-◌, [], ◌++◌, List, ℕ, length}
use Rattle.lti_outside.specs.Traffic.{Moves, no_fault}
use Rattle.http_wire.specs.Shape.{HasNoHead}
use Rattle.http_wire.proofs.taking.take_head.Given as goal

abbrev pub invariant-runs : goal.invariant-runs
invariant-runs g l = record {
  bytes : (read : List ℕ) × Moves (g.S.Outside.traffic l.fn.source) (g.S.Outside.traffic l.source) read [] no_fault × (l.fn.intake ++ read ≡ l.head.list ++ l.intake);
  none : HasNoHead l.head.list;
  within : length l.head.list ≤ l.most;
}

abbrev pub decreases-runs : goal.decreases-runs
decreases-runs g l = l.most - length l.head.list
