use Rattle.std.proofs.Common.{◌≡◌, ℕ, ◌<◌, List, length, refl, ap, ◌∙◌, subst, arith}
use Rattle.std.proofs.lemmas.Grind.{common_steps}
use Rattle.lti_check.specs.CheckerView.{asked}
use Rattle.lti_check.specs.SoFar.{LineTold}
use Rattle.lti_check.proofs.FeedLemmas.{line_finished}
use Rattle.lti_check.proofs.answered_lines.AnsweredLines.finish.Goals as goal

pub returns : goal.returns
returns c =
    let before = c.args.self.now in
    let limits = c.args.checker.now.limits in
    let line : c.deref.result.now ≡ before.held.items = c.deref.ensures.value ∙ ap (λ h. h.items) c.replace-line.ensures.value in
    let some : 0 < length before.held.items = grind (arith, common_steps) in
    let empty = record before { held = c.replace-line.new.dest } in
    line_finished (asked c.args.checker.now) limits before empty c.answer.new.self refl refl refl some c.answer.result
    (subst (λ (l : List ℕ). LineTold (asked c.args.checker.now) limits empty l c.answer.new.self c.answer.result) line c.answer.ensures)
