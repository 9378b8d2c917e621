use Rattle.std.proofs.Common.{◌-◌, ℕ, List, ◌++◌, subst, sym, ap, ◌∙◌, append_assoc, length, arith, length-append}
use Rattle.std.specs.Prelude.{⊤}
use Rattle.std.proofs.lemmas.Result.{err_from_is_err_and}
use Rattle.lti_outside.proofs.TrafficLemmas.{Moves-takes}
use Rattle.http_wire.proofs.HeldLemmas.{joined_run}
use Rattle.http_wire.proofs.ShapeLemmas.{hand_failed}
use Rattle.http_wire.proofs.taking.take_body.Goals as goal

pub returns-in_err-hand-clause-bytes : goal.returns-in_err-hand-clause-bytes
returns-in_err-hand-clause-bytes g c =
    let p = err_from_is_err_and c.from_residual-in_err-hand.result c.from_residual-in_err-hand.ensures.1 in
    let before = c.pieces.invariant.bytes in
    let now = c.in_err-hand.ensures.bytes in
    let before_size = ap length c.get-in-pieces.ensures in
    rw (p.1, p.2) (
      before.0 ++ now.0,
      Moves-takes before.1 now.1,
      hand_failed (λ _. ⊤) (c.args.count - length c.get-in-pieces.result.now) c.args.count (c.pieces.intake ++ now.0) c.hand.new.intake c.pieces.body.list c.hand.new.body.list _ _
          (sym (append_assoc c.args.intake.now before.0 now.0) ∙ ap (λ x. x ++ now.0) before.2 ∙ append_assoc c.pieces.body.list c.pieces.intake now.0)
          (omega (arith, c.pieces-test.true, ap length c.get.ensures)) c.in_err-hand.field-0.0 now.2,
    )

pub pieces-preserved : goal.pieces-preserved
pieces-preserved g c =
    let before = c.pieces.invariant.bytes in
    let now = c.in_ok-hand.ensures.bytes in
    let more = c.in_ok-hand.ensures.fed in
    let piece = now.2.0 in
    let size = ap length now.2.2 in
    let before_size = ap length c.get-in-pieces.ensures in
    record {
      bytes = (before.0 ++ now.0, Moves-takes before.1 now.1, joined_run c.args.intake.now before.0 c.pieces.body.list c.pieces.intake now.0 piece c.hand.new.intake c.hand.new.body.list before.2 now.2.1 now.2.2);
      within = omega (arith, size, length-append c.pieces.body.list piece, now.2.3, now.2.4, c.pieces-test.true, before_size);
      fed = λ fed held.
          subst (λ (xs : List ℕ). g.T.Tap.holds c.hand.new.tap xs) (append_assoc fed c.pieces.body.list more.0 ∙ ap (λ x. fed ++ x) (sym more.1))
          (more.2 (fed ++ c.pieces.body.list) (c.pieces.invariant.fed fed held));
    }
