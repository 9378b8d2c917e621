use Rattle.std.proofs.Common.{inr, refl, rules}
use Rattle.lti_words.specs.Command.{IsCheck, AsksAnswer, IsIssue, IsLaunch, IsPassback, IsGrades, texts}
use Rattle.lti_words.specs.Command.CommandValue.{check as check_command, answer as answer_command, issue as issue_command, launch as launch_command, passback as passback_command, grades as grades_command}
use Rattle.lti_words.specs.CommandView.{check_of, issue_of, launch_of, passback_of, grades_of}
use Rattle.lti_words.proofs.WordLemmas.{IsCheck-range}
use Rattle.lti_server.specs.Doing.Ran.{does}
use Rattle.lti_server.proofs.top.perform.Goals as goal

pub check-requires-clause-range : goal.check-requires-clause-range
check-requires-clause-range g c =
    let asked : IsCheck (texts c.args.words.now) (check_of c.in-Ok-Some-Check.asked) = search rules in
    IsCheck-range (texts c.args.words.now) (check_of c.in-Ok-Some-Check.asked) asked

pub returns-in-Ok-Some-Check-clause-ran : goal.returns-in-Ok-Some-Check-clause-ran
returns-in-Ok-Some-Check-clause-ran g c =
    let asked : IsCheck (texts c.args.words.now) (check_of c.in-Ok-Some-Check.asked) = search rules in
    does (check_command (check_of c.in-Ok-Some-Check.asked)) asked (record { source = refl; disk = refl; judged = inr c.check.ensures })

pub returns-in-Ok-Some-Answer-clause-ran : goal.returns-in-Ok-Some-Answer-clause-ran
returns-in-Ok-Some-Answer-clause-ran g c =
    let asked : AsksAnswer (texts c.args.words.now) = search rules in
    does answer_command asked (c.answer.ensures (g.R.Random.tells c.args.random.now))

pub returns-in-Ok-Some-Issue-clause-ran : goal.returns-in-Ok-Some-Issue-clause-ran
returns-in-Ok-Some-Issue-clause-ran g c =
    let asked : IsIssue (texts c.args.words.now) (issue_of c.in-Ok-Some-Issue.asked) = search rules in
    does (issue_command (issue_of c.in-Ok-Some-Issue.asked)) asked (c.issue.ensures (g.I.Outside.traffic c.args.ends.now) (g.R.Random.tells c.args.random.now))

pub returns-in-Ok-Some-Launch-clause-ran : goal.returns-in-Ok-Some-Launch-clause-ran
returns-in-Ok-Some-Launch-clause-ran g c =
    let asked : IsLaunch (texts c.args.words.now) (launch_of c.in-Ok-Some-Launch.asked) = search rules in
    does (launch_command (launch_of c.in-Ok-Some-Launch.asked)) asked c.launch.ensures

pub returns-in-Ok-Some-Passback-clause-ran : goal.returns-in-Ok-Some-Passback-clause-ran
returns-in-Ok-Some-Passback-clause-ran g c =
    let asked : IsPassback (texts c.args.words.now) (passback_of c.in-Ok-Some-Passback.asked) = search rules in
    does (passback_command (passback_of c.in-Ok-Some-Passback.asked)) asked c.passback.ensures

pub returns-in-Ok-Some-Grades-clause-ran : goal.returns-in-Ok-Some-Grades-clause-ran
returns-in-Ok-Some-Grades-clause-ran g c =
    let asked : IsGrades (texts c.args.words.now) (grades_of c.in-Ok-Some-Grades.asked) = search rules in
    does (grades_command (grades_of c.in-Ok-Some-Grades.asked)) asked (c.grades.ensures (g.S.Outside.traffic c.args.settings.now) (g.R.Random.tells c.args.random.now))
