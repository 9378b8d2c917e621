use Rattle.std.proofs.Common.{◌≡◌, ◌≤◌, ◌-◌, [], ◌++◌, List, ℕ, length}
use Rattle.lti_outside.specs.Traffic.{Moves, no_fault}
use Rattle.http_wire.proofs.taking.take_body.Given as goal

abbrev pub invariant-pieces : goal.invariant-pieces
invariant-pieces g l = record {
  bytes : (read : List ℕ) × Moves (g.S.Outside.traffic l.fn.source) (g.S.Outside.traffic l.source) read [] no_fault × (l.fn.intake ++ read ≡ l.body.list ++ l.intake);
  within : length l.body.list ≤ l.most;
  fed : (fed : List ℕ) → g.T.Tap.holds l.fn.tap fed → g.T.Tap.holds l.tap (fed ++ l.body.list);
}

abbrev pub decreases-pieces : goal.decreases-pieces
decreases-pieces g l = l.most - length l.body.list
