use Rattle.std.proofs.Common.{◌≡◌, ◌-◌, [], ◌∷◌, ◌++◌, subst, sym, ap, ◌∙◌, append_assoc, length, arith, length-append}
use Rattle.std.proofs.lemmas.Result.{err_from_is_err_and}
use Rattle.lti_outside.proofs.TrafficLemmas.{Moves-takes}
use Rattle.http_wire.specs.Shape.{HasNoHead, IsHead}
use Rattle.http_wire.proofs.HeldLemmas.{joined_run}
use Rattle.http_wire.proofs.ShapeLemmas.{run_failed, head_after_run, none_after_run}
use Rattle.http_wire.proofs.taking.take_head.Goals as goal

pub returns-in_err-hand_run : goal.returns-in_err-hand_run
returns-in_err-hand_run g c =
    let p = err_from_is_err_and c.from_residual.result c.from_residual.ensures.1 in
    let before = c.runs.invariant.bytes in
    let now = c.in_err-hand_run.ensures in
    rw (p.1, p.2) (
      before.0 ++ now.0,
      Moves-takes before.1 now.1,
      run_failed (c.args.most - length c.get-in-runs.result.now) c.args.most (c.runs.intake ++ now.0) c.hand_run.new.intake c.runs.head.list c.hand_run.new.head.list _ _
          (sym (append_assoc c.args.intake.now before.0 now.0) ∙ ap (λ x. x ++ now.0) before.2 ∙ append_assoc c.runs.head.list c.runs.intake now.0)
          c.runs.invariant.none c.in_err-hand_run.field-0.0 now.2,
    )

pub returns-then-ends_head : goal.returns-then-ends_head
returns-then-ends_head g c =
    let before = c.runs.invariant.bytes in
    let now = c.in_ok-hand_run.ensures in
    let piece = now.2.0 in
    let ends = c.ends_head.ensures.yes c.if-ends_head.true in
    let whole : c.runs.head.list ++ piece ≡ ends.0 ++ 13 ∷ 10 ∷ 13 ∷ 10 ∷ [] = sym now.2.2 ∙ sym c.get-in-runs-2.ensures ∙ ends.1 in
    let size = ap length now.2.2 in
    let before_size = ap length c.get-in-runs.ensures in (
      before.0 ++ now.0,
      Moves-takes before.1 now.1,
      (
        subst IsHead (sym now.2.2) (head_after_run c.runs.head.list piece c.runs.invariant.none now.2.5 ends.0 whole),
        omega (arith, size, length-append c.runs.head.list piece, now.2.3, now.2.4, c.runs-test.true, before_size),
        joined_run c.args.intake.now before.0 c.runs.head.list c.runs.intake now.0 piece c.hand_run.new.intake c.hand_run.new.head.list before.2 now.2.1 now.2.2,
      ),
    )

pub runs-preserved : goal.runs-preserved
runs-preserved g c =
    let before = c.runs.invariant.bytes in
    let now = c.in_ok-hand_run.ensures in
    let piece = now.2.0 in
    let size = ap length now.2.2 in
    let before_size = ap length c.get-in-runs.ensures in
    record {
      bytes = (before.0 ++ now.0, Moves-takes before.1 now.1, joined_run c.args.intake.now before.0 c.runs.head.list c.runs.intake now.0 piece c.hand_run.new.intake c.hand_run.new.head.list before.2 now.2.1 now.2.2);
      none = subst HasNoHead (sym now.2.2)
          (none_after_run c.runs.head.list piece c.runs.invariant.none now.2.5
          (λ front is. c.ends_head.ensures.no c.if-ends_head.false front (c.get-in-runs-2.ensures ∙ now.2.2 ∙ is)));
      within = omega (arith, size, length-append c.runs.head.list piece, now.2.3, now.2.4, c.runs-test.true, before_size);
    }
