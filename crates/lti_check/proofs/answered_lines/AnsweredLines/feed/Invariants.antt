use Rattle.std.proofs.Common.{◌≡◌, ℕ, List, ◌++◌, length, Ok}
use Rattle.lti_check.specs.CheckerView.{asked}
use Rattle.lti_check.specs.SoFar.{Feeds}
use Rattle.lti_check.proofs.answered_lines.AnsweredLines.feed.Given as goal

-- the lines that end before the rest were answered
abbrev pub invariant-loop-end : goal.invariant-loop-end
invariant-loop-end l = (front : List ℕ) × (l.fn.bytes ≡ front ++ l.rest) × Feeds (asked l.checker) l.checker.limits l.fn.self front l.self (Ok tt)

abbrev pub decreases-loop-end : goal.decreases-loop-end
decreases-loop-end l = length l.rest
