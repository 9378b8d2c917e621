use Rattle.std.proofs.Common.{◌<◌, ℕ, [], length, take, subst, arith, length-take}
use Rattle.std.proofs.lemmas.Result.{err_from_is_err_and}
use Rattle.lti_outside.specs.Traffic.{Moves, no_fault}
use Rattle.lti_check.specs.CheckerView.{asked}
use Rattle.lti_check.proofs.TurnLemmas.{take_failed, end_write_failed, end_stopped, end_done, go_write_failed, go_stopped, go_on}
use Rattle.lti_check.proofs.checking.turn.Goals as goal

pub returns-in_err-count : goal.returns-in_err-count
returns-in_err-count g c =
    let p = err_from_is_err_and c.from_residual.result c.from_residual.ensures.1 in
    rw (p.1, p.2) (take_failed (asked c.args.checker.now) c.args.checker.now.limits _ _ c.args.answered.now c.args.answered.now c.in_err-count.ensures.failed)

pub returns-in_err-write_to : goal.returns-in_err-write_to
returns-in_err-write_to g c =
    let p = err_from_is_err_and c.from_residual-in_err-write_to.result c.from_residual-in_err-write_to.ensures.1 in
    let taken = subst (λ (n : ℕ). Moves (g.I.Outside.traffic c.args.ends.now) (g.I.Outside.traffic c.take.new.self) (take n c.take.new.buf) [] no_fault) c.if-count-eq0.true c.in_ok-count.ensures.taken in
    rw (p.1, p.2)
    (end_write_failed (asked c.args.checker.now) c.args.checker.now.limits _ _ _ c.args.answered.now c.finish-finished.new.self c.write_to.new.self taken (c.in_ok-count.ensures.end c.if-count-eq0.true)
    c.finish-finished.result c.finish-finished.ensures c.in_err-write_to.ensures.failed)

pub returns-in_err-finished : goal.returns-in_err-finished
returns-in_err-finished g c =
    let p = err_from_is_err_and c.from_residual-in_err-finished.result c.from_residual-in_err-finished.ensures.1 in
    let taken = subst (λ (n : ℕ). Moves (g.I.Outside.traffic c.args.ends.now) (g.I.Outside.traffic c.take.new.self) (take n c.take.new.buf) [] no_fault) c.if-count-eq0.true c.in_ok-count.ensures.taken in
    rw (p.1, p.2)
    (end_stopped (asked c.args.checker.now) c.args.checker.now.limits _ _ _ c.args.answered.now c.finish-finished.new.self c.write_to.new.self taken (c.in_ok-count.ensures.end c.if-count-eq0.true)
    c.in_ok-write_to.ensures.given c.in_err-finished.field-0.0 c.in_err-finished.ensures)

pub returns-then-count-eq0 : goal.returns-then-count-eq0
returns-then-count-eq0 g c =
    let taken = subst (λ (n : ℕ). Moves (g.I.Outside.traffic c.args.ends.now) (g.I.Outside.traffic c.take.new.self) (take n c.take.new.buf) [] no_fault) c.if-count-eq0.true c.in_ok-count.ensures.taken in
    end_done (asked c.args.checker.now) c.args.checker.now.limits _ _ _ c.args.answered.now c.finish-finished.new.self c.write_to.new.self taken (c.in_ok-count.ensures.end c.if-count-eq0.true)
    c.in_ok-write_to.ensures.given c.in_ok-finished.ensures

pub returns-in_err-write_to-2 : goal.returns-in_err-write_to-2
returns-in_err-write_to-2 g c =
    let p = err_from_is_err_and c.from_residual-in_err-write_to-2.result c.from_residual-in_err-write_to-2.ensures.1 in
    rw (p.1, p.2)
    (go_write_failed (asked c.args.checker.now) c.args.checker.now.limits _ _ _ c.args.answered.now c.feed-fed.new.self c.write_to-2.new.self (take c.in_ok-count.count c.take.new.buf) c.in_ok-count.ensures.taken
    c.feed-fed.result c.feed-fed.ensures c.in_err-write_to-2.ensures.failed)

pub returns-in_err-fed : goal.returns-in_err-fed
returns-in_err-fed g c =
    let p = err_from_is_err_and c.from_residual-in_err-fed.result c.from_residual-in_err-fed.ensures.1 in
    rw (p.1, p.2)
    (go_stopped (asked c.args.checker.now) c.args.checker.now.limits _ _ _ c.args.answered.now c.feed-fed.new.self c.write_to-2.new.self (take c.in_ok-count.count c.take.new.buf) c.in_ok-count.ensures.taken
    c.in_ok-write_to-2.ensures.given c.in_err-fed.field-0.0 c.in_err-fed.ensures)

pub returns : goal.returns
returns g c =
    let some : 0 < length (take c.in_ok-count.count c.take.new.buf) = omega (arith, length-take c.in_ok-count.count c.take.new.buf, c.in_ok-count.ensures.bound) in
    go_on (asked c.args.checker.now) c.args.checker.now.limits _ _ _ c.args.answered.now c.feed-fed.new.self c.write_to-2.new.self (take c.in_ok-count.count c.take.new.buf) c.in_ok-count.ensures.taken
    c.in_ok-write_to-2.ensures.given some c.in_ok-fed.ensures c.in_ok-write_to-2.ensures.same c.in_ok-write_to-2.ensures.none
