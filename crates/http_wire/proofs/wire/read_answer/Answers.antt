use Rattle.std.proofs.Common.{ℕ, List, ◌++◌, subst, refl, sym, ap, ◌∙◌, append_assoc, Err, Ok}
use Rattle.std.proofs.lemmas.Result.{err_from_is_err_and}
use Rattle.lti_outside.specs.Traffic.{IsAtEnd}
use Rattle.lti_outside.proofs.TrafficLemmas.{Moves-takes}
use Rattle.http_wire.specs.declared.message.Answered.{Answered}
use Rattle.http_wire.specs.declared.answer_head.AnswerFront.{AnswerFront}
use Rattle.http_wire.specs.AnswerFront.{AnswerHeadTells}
use Rattle.http_wire.proofs.FaultLemmas.{more_read}
use Rattle.http_wire.proofs.AnswerLemmas.{answer_front_failed, answer_body_failed, answer_spelled}
use Rattle.http_wire.proofs.ReadingLemmas.{front_moves}
use Rattle.http_wire.proofs.wire.read_answer.Goals as goal

pub returns-in_err-front : goal.returns-in_err-front
returns-in_err-front g c =
    let p = err_from_is_err_and c.from_residual-in_err-front.result c.from_residual-in_err-front.ensures.1 in
    let taken = rw c.in-Some.is at c.in_ok-head.ensures in
    let tells = subst (λ (x : List ℕ). AnswerHeadTells c.args.limits.now x (Err c.in_err-front.field-0.0)) c.get.ensures c.in_err-front.ensures in
    rw (p.1, p.2) (
      taken.0,
      front_moves Answered AnswerFront (AnswerHeadTells c.args.limits.now c.in-Some.head.list) (λ none. none) taken.0 _ _ taken.1 c.in_err-front.field-0.0 tells,
      answer_front_failed c.args.limits.now (c.args.intake.now ++ taken.0) c.in-Some.head.list c.take_head.new.intake c.take_head.new.intake _
          record { is = taken.2.2; is_head = taken.2.0; fits = taken.2.1 } c.in_err-front.field-0.0 tells,
    )

pub returns-in_err-body : goal.returns-in_err-body
returns-in_err-body g c =
    let p = err_from_is_err_and c.from_residual-in_err-body.result c.from_residual-in_err-body.ensures.1 in
    let taken = rw c.in-Some.is at c.in_ok-head.ensures in
    let tells = subst (λ (x : List ℕ). AnswerHeadTells c.args.limits.now x (Ok c.in_ok-front.front)) c.get.ensures c.in_ok-front.ensures in
    let body = c.in_err-body.ensures in
    rw (p.1, p.2) (
      taken.0 ++ body.0,
      Moves-takes taken.1 body.1,
      answer_body_failed c.args.limits.now (c.args.intake.now ++ (taken.0 ++ body.0)) c.in-Some.head.list (c.take_head.new.intake ++ body.0) c.take_answer_body.new.intake tells.0 _
          record { is = more_read c.args.intake.now taken.0 body.0 c.in-Some.head.list c.take_head.new.intake taken.2.2; is_head = taken.2.0; fits = taken.2.1 }
          tells.1 c.in_ok-front.front.length (sym tells.2.length) c.in_err-body.field-0.0 body.2,
    )

pub returns : goal.returns
returns g c =
    let taken = rw c.in-Some.is at c.in_ok-head.ensures in
    let tells = subst (λ (x : List ℕ). AnswerHeadTells c.args.limits.now x (Ok c.in_ok-front.front)) c.get.ensures c.in_ok-front.ensures in
    let body = c.in_ok-body.ensures in
    let head = c.in-Some.head.list in
    let read = c.take_head.new.intake ++ body.0 in
    let kept = c.take_answer_body.new.intake in
    let made = answer_spelled c.args.limits.now head read kept (IsAtEnd (g.S.Outside.traffic c.take_answer_body.new.source)) tells.0 c.in_ok-front.front c.in_ok-body.body
    record { is = refl; is_head = taken.2.0; fits = taken.2.1 } tells.1 tells.2 c.in_ok-front.front.length tells.2.length body.2 in (
      taken.0 ++ body.0,
      Moves-takes taken.1 body.1,
      (
        head ++ c.in_ok-body.body.list,
        made.0,
        more_read c.args.intake.now taken.0 body.0 head c.take_head.new.intake taken.2.2 ∙ ap (λ x. head ++ x) made.1 ∙ sym (append_assoc head c.in_ok-body.body.list kept),
      ),
    )
