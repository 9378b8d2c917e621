use Rattle.std.proofs.Common.{◌≡◌, ℕ, List, [], ◌++◌, ◌∷◌, refl, sym, ap, ◌∙◌, subst, append-nil, arith}
use Rattle.std.specs.Str.Lines.{strip_carriage_return}
use Rattle.std.proofs.lemmas.Grind.{common_steps}
use Rattle.std.proofs.lemmas.List.Elements.{All-nil}
use Rattle.std.proofs.lemmas.Result.{err_from_is_err_and}
use Rattle.lti_check.specs.CheckerView.{asked}
use Rattle.lti_check.specs.SoFar.{LineTold}
use Rattle.lti_check.proofs.SoFarLemmas.{IsInLine}
use Rattle.lti_check.proofs.FeedLemmas.{Feeds-stop, Feeds-then, line_fed}
use Rattle.lti_check.proofs.answered_lines.AnsweredLines.end_line.Goals as goal

pub returns-then-is_empty : goal.returns-then-is_empty
returns-then-is_empty c =
    let none : c.args.self.now.held.items ≡ [] = grind (arith, common_steps) in
    let line : c.without_carriage_return.result.now ≡ strip_carriage_return (c.args.self.now.held.items ++ c.args.part.now) =
    c.without_carriage_return.ensures ∙ ap (λ (h : List ℕ). strip_carriage_return (h ++ c.args.part.now)) (sym none) in
    line_fed (asked c.args.checker.now) c.args.checker.now.limits c.args.self.now c.args.self.now c.answer.new.self c.args.part.now c.requires.part refl refl refl none c.answer.result
    (subst (λ (l : List ℕ). LineTold (asked c.args.checker.now) c.args.checker.now.limits c.args.self.now l c.answer.new.self c.answer.result) line c.answer.ensures)

pub returns-in_err-begin_line : goal.returns-in_err-begin_line
returns-in_err-begin_line c =
    let p = err_from_is_err_and c.from_residual.result c.from_residual.ensures.1 in
    rw (p.1, p.2) (Feeds-stop (asked c.args.checker.now) c.args.checker.now.limits c.args.self.now c.begin_line.new.self c.args.part.now (10 ∷ []) _ c.in_err-begin_line.ensures)

pub returns : goal.returns
returns c =
    let mid = c.begin_line.new.self in
    let after = c.answer-2.new.self in
    let limits = c.args.checker.now.limits in
    let line : c.without_carriage_return-2.result.now ≡ strip_carriage_return (mid.held.items ++ []) =
    c.without_carriage_return-2.ensures ∙ ap strip_carriage_return (c.deref.ensures.value ∙ ap (λ h. h.items) c.replace-line.ensures.value ∙ sym (append-nil mid.held.items)) in
    let empty = record mid { held = c.replace-line.new.dest } in
    let none : c.replace-line.new.dest.items ≡ [] = ap (λ h. h.items) c.replace-line.ensures.after ∙ c.new.ensures.items in
    Feeds-then (asked c.args.checker.now) limits c.args.self.now mid after c.args.part.now (10 ∷ []) c.answer-2.result c.in_ok-begin_line.ensures
    (line_fed (asked c.args.checker.now) limits mid empty after [] (All-nil IsInLine) refl refl refl none c.answer-2.result
    (subst (λ (l : List ℕ). LineTold (asked c.args.checker.now) limits empty l after c.answer-2.result) line c.answer-2.ensures))
