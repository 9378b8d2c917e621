use Rattle.std.proofs.Common.{◌≡◌, ◌≤◌, ◌-◌, ◌*◌, List, length, take, string_bytes}
use Rattle.lti_machine.specs.declared.entry.Entry.{Entry}
use Rattle.gradebook.specs.Book.{Holds}
use Rattle.lti_machine.specs.Rows.{rows_of}
use Rattle.lti_operator.specs.Report.{Lists}
use Rattle.lti_operator.proofs.reports.push_rows.Given as goal

-- the rows so far were told, and there are few enough of them to be counted
abbrev pub invariant-loop-place : goal.invariant-loop-place
invariant-loop-place g l = record {
  told : (entries : List Entry) → Holds l.book entries → Lists l.most (take l.place (rows_of entries)) (string_bytes l.fn.out) (string_bytes l.out) l.graded l.points;
  count : (entries : List Entry) → Holds l.book entries → l.count ≡ length (rows_of entries);
  few_graded : l.graded ≤ l.place;
  few_points : l.points ≤ 1000000 * l.place;
  within : l.place ≤ l.count;
}

abbrev pub decreases-loop-place : goal.decreases-loop-place
decreases-loop-place g l = l.count - l.place
