-- What a run of `issue` did (this project's own).
use Rattle.std.specs.Prelude.{◌≡◌, ◌⊎◌, ℕ, List, [], Option}
use Rattle.lti_outside.specs.Moment as moments
use Rattle.lti_machine.specs.declared.call.Call.{Call}
use Rattle.lti_machine.specs.declared.call.Action.TheVariants as action
use Rattle.lti_machine.specs.declared.reply.Reply.{Reply}
use Rattle.lti_machine.specs.declared.reply.Reply.TheVariants as reply
use Rattle.lti_outside.specs.declared.disk.Disk.{Ghosts}
use Rattle.lti_desk.specs.Answering.{Answers}
use Rattle.lti_desk.specs.Office.{OfficeValue}
use Rattle.lti_words.specs.Command.{IssueCommand}
use Rattle.lti_words.specs.declared.status.Status.{Status}
use Rattle.lti_words.specs.declared.status.Status.TheVariants as ends

-- the operator's call that issues the id
abbrev pub issue_call : IssueCommand → ℕ → Call
issue_call issue moment = record { caller = 0; moment = moment; key = issue.key; timestamp = 0; nonce = []; action = action.Issue issue.id }

-- how the command ends, by the office's reply
abbrev pub issued_by : Reply → Status
issued_by reply.Issued = ends.Done
issued_by reply.AlreadyIssued = ends.AlreadyIssued
issued_by (reply.JournalFull free) = ends.JournalFull
issued_by (reply.DiskFault faults) = ends.DiskFault
issued_by _ = ends.NoMemory

-- the office was asked to issue the id, at a moment of the clock, and this came of it
pub record Issues {D : Type 0} (g : Ghosts D) (issue : IssueCommand) (clock : Option ℕ) (from to : OfficeValue D) (status : Status) : Type 0 where
  pub moment : ℕ
  pub moment_is : moments.IsTold clock moment
  pub given : Reply
  pub answered : Answers g from (issue_call issue moment) given to
  pub status_is : status ≡ issued_by given

-- Memory ran out, and the office was asked nothing; or it was asked.
abbrev pub IsIssued : {D : Type 0} → Ghosts D → IssueCommand → Option ℕ → OfficeValue D → OfficeValue D → Status → Type 0
IsIssued g issue clock from to status = ((to ≡ from) × (status ≡ ends.NoMemory)) ⊎ Issues g issue clock from to status
