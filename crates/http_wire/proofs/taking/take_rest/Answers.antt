use Rattle.std.proofs.Common.{◌+◌, ◌-◌, ◌++◌, ap, length, arith, length-append}
use Rattle.std.specs.Prelude.{⊤}
use Rattle.std.proofs.lemmas.Result.{err_from_is_err_and}
use Rattle.lti_outside.specs.Traffic.{IsAtEnd}
use Rattle.lti_outside.proofs.TrafficLemmas.{Moves-takes}
use Rattle.http_wire.proofs.HeldLemmas.{joined_run}
use Rattle.http_wire.proofs.AnswerLemmas.{rest_failed}
use Rattle.http_wire.proofs.taking.take_rest.Goals as goal

pub returns-in_err-hand : goal.returns-in_err-hand
returns-in_err-hand g c =
    let p = err_from_is_err_and c.from_residual.result c.from_residual.ensures.1 in
    let before = c.pieces.invariant.bytes in
    let now = c.in_err-hand.ensures.bytes in
    rw (p.1, p.2) (
      before.0 ++ now.0,
      Moves-takes before.1 now.1,
      rest_failed (λ _. ⊤) (c.args.most + 1 - length c.get-in-pieces.result.now) c.args.most (c.pieces.intake ++ now.0) c.hand.new.intake c.pieces.rest.list c.hand.new.body.list (c.args.intake.now ++ (before.0 ++ now.0)) (IsAtEnd (g.S.Outside.traffic c.hand.new.source))
          c.in_err-hand.field-0.0 now.2,
    )

pub pieces-preserved : goal.pieces-preserved
pieces-preserved g c =
    let before = c.pieces.invariant.bytes in
    let now = c.in_ok-hand.ensures.bytes in
    let piece = now.2.0 in
    let size = ap length now.2.2 in
    let before_size = ap length c.get-in-pieces.ensures in
    record {
      bytes = (before.0 ++ now.0, Moves-takes before.1 now.1, joined_run c.args.intake.now before.0 c.pieces.rest.list c.pieces.intake now.0 piece c.hand.new.intake c.hand.new.body.list before.2 now.2.1 now.2.2);
      within = omega (arith, size, length-append c.pieces.rest.list piece, now.2.3, now.2.4, c.pieces-test.true, before_size);
    }
