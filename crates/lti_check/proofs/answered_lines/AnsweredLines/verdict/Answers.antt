use Rattle.std.proofs.Common.{refl}
use Rattle.lti_machine.specs.Rules.{after}
use Rattle.lti_check.specs.CheckerView.{asked, IsChecked}
use Rattle.lti_check.specs.Noting.{Notes}
use Rattle.lti_check.specs.Verdicts.{line_call}
use Rattle.lti_check.specs.declared.checker.Checked.TheVariants.{Signed as Call}
use Rattle.lti_check.proofs.answered_lines.AnsweredLines.verdict.Goals as goal

pub returns-in_ok-note-in-Signed-clause-ok : goal.returns-in_ok-note-in-Signed-clause-ok
returns-in_ok-note-in-Signed-clause-ok c = λ accepted held.
    let command = asked c.args.checker.now in
    let limits = c.args.checker.now.limits in
    let reply = c.in_ok-note-in-Signed.field-0 in
    let checked : IsChecked command limits.field c.args.line.now (Call c.in-Signed.call) = rw c.in-Signed.is at c.in_ok-check.ensures in
    let signed = checked.1 in
    let notes : Notes limits.window c.args.self.now.window (line_call command signed) reply c.note.new.window = rw checked.3 at (c.in_ok-note-in-Signed.ensures limits.window) in
    let noted = notes accepted held in
    (after accepted (line_call command signed) reply, (signed, checked.2, noted.0, refl), noted.1)
