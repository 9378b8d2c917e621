use Rattle.std.proofs.Common.{ℕ, List, ◌++◌, subst, refl, sym, ap, ◌∙◌, append_assoc, Err, Ok, Option}
use Rattle.http_wire.specs.declared.message.Request.{Request}
use Rattle.std.proofs.lemmas.Result.{err_from_is_err_and}
use Rattle.lti_outside.specs.Traffic.{IsAtEnd}
use Rattle.lti_outside.proofs.TrafficLemmas.{Moves-takes}
use Rattle.http_wire.specs.declared.head.Front.{Front}
use Rattle.http_wire.specs.Front.{HeadTells}
use Rattle.http_wire.specs.Taking.{BodyTaken}
use Rattle.http_wire.specs.Spelling.{HeadIn}
use Rattle.http_wire.proofs.FaultLemmas.{head_failed, front_failed, body_failed, spelled, more_read}
use Rattle.http_wire.proofs.ReadingLemmas.{front_moves}
use Rattle.http_wire.proofs.wire.read_message.Goals as goal

pub returns-in_err-head-clause-bytes : goal.returns-in_err-head-clause-bytes
returns-in_err-head-clause-bytes g c =
    let p = err_from_is_err_and c.from_residual.result c.from_residual.ensures.1 in
    let taken = c.in_err-head.ensures in
    rw (p.1, p.2) (taken.0, taken.1, head_failed c.args.limits.now (c.args.intake.now ++ taken.0) c.take_head.new.intake _ c.in_err-head.field-0.0 taken.2)

pub returns-in_err-front-clause-bytes : goal.returns-in_err-front-clause-bytes
returns-in_err-front-clause-bytes g c =
    let p = err_from_is_err_and c.from_residual-in_err-front.result c.from_residual-in_err-front.ensures.1 in
    let taken = rw c.in-Some.is at c.in_ok-head.ensures in
    let tells = subst (λ (x : List ℕ). HeadTells c.args.limits.now x (Err c.in_err-front.field-0.0)) c.get.ensures c.in_err-front.ensures in
    rw (p.1, p.2) (
      taken.0,
      front_moves (Option Request) Front (HeadTells c.args.limits.now c.in-Some.head.list) (λ none. none) taken.0 _ _ taken.1 c.in_err-front.field-0.0 tells,
      front_failed c.args.limits.now (c.args.intake.now ++ taken.0) c.in-Some.head.list c.take_head.new.intake _
          record { is = taken.2.2; is_head = taken.2.0; fits = taken.2.1 } c.in_err-front.field-0.0 tells,
    )

pub returns-in_err-body-clause-bytes : goal.returns-in_err-body-clause-bytes
returns-in_err-body-clause-bytes g c =
    let p = err_from_is_err_and c.from_residual-in_err-body.result c.from_residual-in_err-body.ensures.1 in
    let taken = rw c.in-Some.is at c.in_ok-head.ensures in
    let tells = subst (λ (x : List ℕ). HeadTells c.args.limits.now x (Ok c.in_ok-front.front)) c.get.ensures c.in_ok-front.ensures in
    let body = c.in_err-body.ensures.bytes in
    let fault = c.in_err-body.field-0.0 in
    rw (p.1, p.2) (
      taken.0 ++ body.0,
      Moves-takes taken.1 body.1,
      body_failed c.args.limits.now (c.args.intake.now ++ (taken.0 ++ body.0)) c.in-Some.head.list (c.take_head.new.intake ++ body.0) c.take_body.new.intake tells.0 _
          record { is = more_read c.args.intake.now taken.0 body.0 c.in-Some.head.list c.take_head.new.intake taken.2.2; is_head = taken.2.0; fits = taken.2.1 }
          tells.1 fault (subst (λ (n : ℕ). BodyTaken n (c.take_head.new.intake ++ body.0) c.take_body.new.intake (IsAtEnd (g.S.Outside.traffic c.take_body.new.source)) (Err fault)) tells.2.length body.2),
    )

pub returns-clause-bytes : goal.returns-clause-bytes
returns-clause-bytes g c =
    let taken = rw c.in-Some.is at c.in_ok-head.ensures in
    let tells = subst (λ (x : List ℕ). HeadTells c.args.limits.now x (Ok c.in_ok-front.front)) c.get.ensures c.in_ok-front.ensures in
    let body = c.in_ok-body.ensures.bytes in
    let head = c.in-Some.head.list in
    let stands : HeadIn c.args.limits.now (head ++ c.in_ok-body.body.list) head c.in_ok-body.body.list = record { is = refl; is_head = taken.2.0; fits = taken.2.1 } in (
      taken.0 ++ body.0,
      Moves-takes taken.1 body.1,
      (
        head ++ c.in_ok-body.body.list,
        spelled c.args.limits.now head tells.0 c.in_ok-front.front _ c.in_ok-body.body.list stands tells.1 tells.2 body.2.0 refl,
        more_read c.args.intake.now taken.0 body.0 head c.take_head.new.intake taken.2.2 ∙ ap (λ x. head ++ x) body.2.1
            ∙ sym (append_assoc head c.in_ok-body.body.list c.take_body.new.intake),
      ),
    )
