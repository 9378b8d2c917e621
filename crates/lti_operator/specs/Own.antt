-- What each command does as its own, over the office of its journal, once its settings and its key are known (this project's
-- own).
use Rattle.std.specs.Prelude.{◌≡◌, ℕ, List, Option, Result, Ok, Err}
use Rattle.lti_outside.specs.declared.disk.Disk.{Ghosts}
use Rattle.lti_outside.specs.declared.limits.Limits.{Limits}
use Rattle.lti_machine.specs.Rows.{rows_of}
use Rattle.lti_desk.specs.Mounting.{IsOver}
use Rattle.lti_desk.specs.Office.{OfficeValue}
use Rattle.lti_words.specs.Command.{IssueCommand, LaunchCommand, PassbackCommand, GradesCommand}
use Rattle.lti_words.specs.declared.status.Status.{Status}
use Rattle.lti_words.specs.declared.status.Status.TheVariants as ends
use Rattle.lti_operator.specs.Ladder.{Passage, IsUntouched}
use Rattle.lti_operator.specs.Issuing.{IsIssued}
use Rattle.lti_operator.specs.Launching.{IsLaunched}
use Rattle.lti_operator.specs.Passing.{IsPassed}
use Rattle.lti_operator.specs.Report.{IsReported}
use Rattle.lti_operator.specs.declared.reports.ReportFault.{ReportFault}
use Rattle.lti_operator.specs.declared.reports.ReportFault.TheVariants as report

-- the office was asked for nothing, so that its journal is as it was mounted
abbrev pub Rests : {D : Type 0} → Passage D → OfficeValue D → Type 0
Rests p office = p.after.disk ≡ office.disk

abbrev pub OwnIssue : {D : Type 0} → Ghosts D → Option ℕ → IssueCommand → Passage D → OfficeValue D → Status → Type 0
OwnIssue {D} g clock issue p office status = IsUntouched p × (to : OfficeValue D) × IsIssued g issue clock office to status × (p.after.disk ≡ to.disk)

abbrev pub OwnLaunch : {D : Type 0} → Option ℕ → LaunchCommand → List ℕ → Passage D → OfficeValue D → Status → Type 0
OwnLaunch clock launch secret p office status =
    Rests p office × IsOver office.origin (λ entries. IsLaunched launch secret entries clock p.before.random p.after.random p.before.link p.after.link status)

abbrev pub OwnPassback : {D : Type 0} → Limits → Option ℕ → PassbackCommand → List ℕ → Passage D → OfficeValue D → Status → Type 0
OwnPassback limits clock passback secret p office status =
    Rests p office × IsOver office.origin (λ entries. IsPassed passback secret entries clock p.before.random p.after.random limits p.before.link p.after.link status)

-- how a run ends whose report ended so
abbrev pub report_status : Result Unit ReportFault → Status
report_status (Ok _) = ends.Done
report_status (Err report.WriteFault) = ends.WriteFault
report_status (Err report.NoMemory) = ends.NoMemory

abbrev pub OwnGrades : {D : Type 0} → GradesCommand → Passage D → OfficeValue D → Status → Type 0
OwnGrades grades p office status =
    Rests p office × (end : Result Unit ReportFault) × IsOver office.origin (λ entries. IsReported grades.most (rows_of entries) p.before.link p.after.link end)
    × (status ≡ report_status end)
