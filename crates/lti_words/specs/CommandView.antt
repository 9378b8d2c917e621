-- What the commands' structs stand for.
use Rattle.lti_words.specs.declared.command.Check.{Check}
use Rattle.lti_words.specs.declared.command.Issue.{Issue}
use Rattle.lti_words.specs.declared.command.LaunchForm.{LaunchForm}
use Rattle.lti_words.specs.declared.command.Passback.{Passback}
use Rattle.lti_words.specs.declared.command.Grades.{Grades}
use Rattle.lti_words.specs.declared.command.Command.{Command}
use Rattle.lti_words.specs.declared.command.Command.TheVariants as word
use Rattle.lti_words.specs.Command.{CheckCommand, IssueCommand, LaunchCommand, PassbackCommand, GradesCommand, CommandValue}
use Rattle.lti_words.specs.Command.CommandValue.{check, answer, issue, launch, passback, grades}
use Rattle.oauth_text.specs.UrlView.{parts_of}

abbrev pub check_of : Check → CheckCommand
check_of asked = record { url = parts_of asked.url; key = asked.key.now; secret = asked.secret.now; moment = asked.moment }

abbrev pub issue_of : Issue → IssueCommand
issue_of asked = record { key = asked.key.now; id = asked.id.now }

abbrev pub launch_of : LaunchForm → LaunchCommand
launch_of asked = record { url = parts_of asked.url; key = asked.key.now; link = asked.link.now; user = asked.user.now; id = asked.id.now; service = asked.service.now }

abbrev pub passback_of : Passback → PassbackCommand
passback_of asked = record { key = asked.key.now; link = asked.link.now; user = asked.user.now; score = asked.score }

abbrev pub grades_of : Grades → GradesCommand
grades_of asked = record { rounding = asked.rounding; most = asked.most }

abbrev pub value_of : Command → CommandValue
value_of (word.Check command) = check (check_of command)
value_of word.Answer = answer
value_of (word.Issue command) = issue (issue_of command)
value_of (word.Launch command) = launch (launch_of command)
value_of (word.Passback command) = passback (passback_of command)
value_of (word.Grades command) = grades (grades_of command)
