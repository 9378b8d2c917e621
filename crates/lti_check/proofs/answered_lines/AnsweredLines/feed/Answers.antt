use Rattle.std.proofs.Common.{◌≡◌, ℕ, List, [], ◌∷◌, ◌++◌, ◌+◌, ◌-◌, length, take, drop, sym, ap, ◌∙◌, subst, append_assoc, arith, length-drop, Ok, Err}
use Rattle.std.proofs.lemmas.List.{take_all}
use Rattle.std.proofs.lemmas.Result.{err_from_is_err_and}
use Rattle.lti_check.specs.CheckerView.{asked}
use Rattle.lti_check.specs.SoFar.{Feeds}
use Rattle.lti_check.proofs.LineLemmas.{cut_behind}
use Rattle.lti_check.proofs.FeedLemmas.{Feeds-stop, Feeds-then}
use Rattle.lti_check.proofs.answered_lines.AnsweredLines.feed.Goals as goal

-- what the bytes are, where a line was cut off the rest
cut : (bytes front rest : List ℕ) (end : ℕ) → bytes ≡ front ++ rest → rest ≡ (take end rest ++ 10 ∷ []) ++ drop (end + 1) rest
    → bytes ≡ (front ++ (take end rest ++ 10 ∷ [])) ++ take (length rest - (end + 1)) (drop (end + 1) rest)
cut bytes front rest end is cut_is =
    let whole : take (length rest - (end + 1)) (drop (end + 1) rest) ≡ drop (end + 1) rest = take_all _ _ (omega (arith, length-drop (end + 1) rest)) in
    is ∙ ap (λ x. front ++ x) (cut_is ∙ ap (λ x. (take end rest ++ 10 ∷ []) ++ x) (sym whole))
    ∙ sym (append_assoc front (take end rest ++ 10 ∷ []) (take (length rest - (end + 1)) (drop (end + 1) rest)))

pub returns-in_err-end_line : goal.returns-in_err-end_line
returns-in_err-end_line c =
    let p = err_from_is_err_and c.from_residual.result c.from_residual.ensures.1 in
    let before = c.loop-end.invariant in
    let found = c.in-Some.ensures in
    let rest = c.loop-end.rest.now in
    let stop = c.in_err-end_line.field-0.0 in
    let line = take c.in-Some.end rest ++ 10 ∷ [] in
    let is = cut c.args.bytes.now before.0 rest c.in-Some.end before.1 (cut_behind rest c.in-Some.end found.0 found.2) in
    rw (p.1, p.2)
    (subst (λ (bytes : List ℕ). Feeds (asked c.args.checker.now) c.args.checker.now.limits c.args.self.now bytes c.end_line.new.self (Err stop)) (sym is)
    (Feeds-stop (asked c.args.checker.now) c.args.checker.now.limits c.args.self.now c.end_line.new.self (before.0 ++ line) _ stop
    (Feeds-then (asked c.args.checker.now) c.args.checker.now.limits c.args.self.now c.loop-end.self c.end_line.new.self before.0 line (Err stop) before.2 c.in_err-end_line.ensures)))

pub loop-end-preserved : goal.loop-end-preserved
loop-end-preserved c =
    let before = c.loop-end.invariant in
    let found = c.in-Some.ensures in
    let rest = c.loop-end.rest.now in
    let line = take c.in-Some.end rest ++ 10 ∷ [] in (
      before.0 ++ line,
      cut c.args.bytes.now before.0 rest c.in-Some.end before.1 (cut_behind rest c.in-Some.end found.0 found.2),
      Feeds-then (asked c.args.checker.now) c.args.checker.now.limits c.args.self.now c.loop-end.self c.end_line.new.self before.0 line (Ok tt) before.2 c.in_ok-end_line.ensures,
    )

pub returns : goal.returns
returns c =
    let before = c.loop-end.invariant in
    subst (λ (bytes : List ℕ). Feeds (asked c.args.checker.now) c.args.checker.now.limits c.args.self.now bytes c.begin_line.new.self c.begin_line.result) (sym before.1)
    (Feeds-then (asked c.args.checker.now) c.args.checker.now.limits c.args.self.now c.loop-end.self c.begin_line.new.self before.0 c.loop-end.rest.now c.begin_line.result before.2 c.begin_line.ensures)
