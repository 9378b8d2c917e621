-- Which replies may be given to an action.
use Rattle.std.specs.Prelude.{Bool, true, false, not, is_some}
use Rattle.lti_machine.specs.Rules.{is_issue}
use Rattle.lti_machine.specs.declared.call.Action.{Action}
use Rattle.lti_machine.specs.declared.call.Action.TheVariants as action
use Rattle.lti_machine.specs.declared.reply.Reply.{Reply}
use Rattle.lti_machine.specs.declared.reply.Reply.TheVariants as reply

-- the action asks for an id's grade to be set, read or deleted
abbrev pub is_of_grades : Action → Bool
is_of_grades (action.Replace id score) = true
is_of_grades (action.Read id) = true
is_of_grades (action.Delete id) = true
is_of_grades _ = false

-- the reply may be given to the action
abbrev pub belongs : Action → Reply → Bool
belongs action.Note reply.Noted = true
belongs (action.Launch link user sourced_id service) reply.Launched = true
belongs (action.Replace id score) reply.Graded = is_some score
belongs (action.Replace id score) reply.BadScore = not (is_some score)
belongs (action.Read id) (reply.GradeRead score) = true
belongs (action.Delete id) reply.Deleted = true
belongs asked reply.UnknownId = is_of_grades asked
belongs (action.Issue id) reply.Issued = true
belongs (action.Issue id) reply.AlreadyIssued = true
belongs asked (reply.Outside now) = not (is_issue asked)
belongs asked reply.Used = not (is_issue asked)
belongs asked (reply.WindowFull live) = not (is_issue asked)
belongs asked (reply.JournalFull free) = true
belongs asked (reply.DiskFault faults) = true
belongs asked reply.RunFull = true
belongs asked reply.NoMemory = true
belongs asked given = false
