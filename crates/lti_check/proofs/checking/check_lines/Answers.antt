use Rattle.std.proofs.Common.{[], ◌++◌, sym, subst, arith}
use Rattle.std.proofs.lemmas.Result.{err_from_is_err_and}
use Rattle.lti_outside.specs.declared.limits.Limits.{Limits}
use Rattle.lti_outside.proofs.TrafficLemmas.{Moves-same, Moves-then}
use Rattle.lti_words.specs.CommandView.{check_of}
use Rattle.lti_check.specs.CheckerView.{asked}
use Rattle.lti_check.specs.SoFar.{IsFresh}
use Rattle.lti_check.proofs.TurnLemmas.{fresh_led, run_none, run_done, run_stopped}
use Rattle.lti_check.proofs.checking.check_lines.Goals as goal

pub returns-in_err-checker : goal.returns-in_err-checker
returns-in_err-checker g c =
    let p = err_from_is_err_and c.from_residual.result c.from_residual.ensures.1 in
    rw (p.1, p.2) (run_none (check_of c.args.check.now) c.args.limits.now _)

pub returns-in_err-block : goal.returns-in_err-block
returns-in_err-block g c =
    let p = err_from_is_err_and c.from_residual-in_err-block.result c.from_residual-in_err-block.ensures.1 in
    rw (p.1, p.2) (run_none (check_of c.args.check.now) c.args.limits.now _)

pub returns-in_err-answered : goal.returns-in_err-answered
returns-in_err-answered g c =
    let p = err_from_is_err_and c.from_residual-in_err-answered.result c.from_residual-in_err-answered.ensures.1 in
    rw (p.1, p.2) (run_none (check_of c.args.check.now) c.args.limits.now _)

pub turns-init : goal.turns-init
turns-init g c = record {
  led = ([], [], Moves-same _, fresh_led (asked c.in_ok-checker.checker) c.in_ok-checker.checker.limits c.in_ok-answered.answered (subst (λ (l : Limits). IsFresh l c.in_ok-answered.answered) (sym c.in_ok-checker.ensures.limits) c.in_ok-answered.ensures));
  none = c.in_ok-answered.ensures.pending;
  room = omega (arith, c.in_ok-block.ensures.len);
}

pub turns-preserved : goal.turns-preserved
turns-preserved g c =
    let before = c.turns.invariant.led in
    let turned = rw c.if-branch.false at c.in_ok-turn.ensures in
    let now = turned before.0 before.1 c.turns.invariant.none before.3 in
    record {
      led = (before.0 ++ now.0, before.1 ++ now.1, Moves-then before.2 now.2, now.3);
      none = now.4;
      room = c.turns.invariant.room;
    }

pub turns-smaller : goal.turns-smaller
turns-smaller g c =
    let before = c.turns.invariant.led in
    let turned = rw c.if-branch.false at c.in_ok-turn.ensures in
    (turned before.0 before.1 c.turns.invariant.none before.3).5

pub returns-in_err-turn : goal.returns-in_err-turn
returns-in_err-turn g c =
    let p = err_from_is_err_and c.from_residual-in_err-turn.result c.from_residual-in_err-turn.ensures.1 in
    let before = c.turns.invariant.led in
    let checks = run_stopped (asked c.in_ok-checker.checker) c.in_ok-checker.checker.limits _ _ _ c.turns.answered c.turn.new.answered before.0 before.1 before.2 before.3 c.turns.invariant.none c.in_err-turn.field-0.0 c.in_err-turn.ensures in
    rw (p.1, p.2) (rw (c.in_ok-checker.ensures.asked, c.in_ok-checker.ensures.limits) at checks)

pub returns-then-branch : goal.returns-then-branch
returns-then-branch g c =
    let before = c.turns.invariant.led in
    let turned = rw c.if-branch.true at c.in_ok-turn.ensures in
    let checks = run_done (asked c.in_ok-checker.checker) c.in_ok-checker.checker.limits _ _ _ c.turns.answered c.turn.new.answered before.0 before.1 before.2 before.3 c.turns.invariant.none turned in
    rw (c.in_ok-checker.ensures.asked, c.in_ok-checker.ensures.limits) at checks
