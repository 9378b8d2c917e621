use Rattle.std.proofs.Common.{◌≡◌, ◌<◌, List, ℕ, [], vec_len, string_bytes}
use Rattle.lti_outside.specs.Traffic.{Moves, no_fault}
use Rattle.lti_check.specs.CheckerView.{asked}
use Rattle.lti_check.specs.SoFar.{LedTo, budget}
use Rattle.lti_check.proofs.checking.check_lines.Given as goal

-- what was read and written led here, and nothing is pending
abbrev pub invariant-turns : goal.invariant-turns
invariant-turns g l = record {
  led : (read : List ℕ) × (written : List ℕ) × Moves (g.I.Outside.traffic l.fn.ends) (g.I.Outside.traffic l.ends) read written no_fault
      × LedTo (asked l.checker) l.checker.limits read written l.answered;
  none : string_bytes l.answered.pending ≡ [];
  room : 0 < vec_len l.block;
}

abbrev pub decreases-turns : goal.decreases-turns
decreases-turns g l = budget l.checker.limits l.answered.count l.answered.held.items
