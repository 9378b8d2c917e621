use Rattle.std.proofs.Common.{sym, subst, ℕ, List}
use Rattle.http_wire.specs.Message.{parts_of, response_parts_of}
use Rattle.pox_outcomes.specs.Request.{EnvelopeOf}
use Rattle.pox_outcomes.specs.BadAt.{IsBadAt}
use Rattle.lti_provider.specs.Before.{AsksNothing}
use Rattle.lti_provider.specs.declared.routes.Route.{Route}
use Rattle.lti_session.proofs.before.judge_message.Goals as goal

pub returns : goal.returns
returns c =
    let fault = rw c.in-Err-BadEnvelope.field-0-is at c.in-Err-BadEnvelope.ensures.bad in
    let bad : IsBadAt EnvelopeOf c.args.request.now.body.list c.in-Err-BadEnvelope.at = subst (λ (b : List ℕ). IsBadAt EnvelopeOf b c.in-Err-BadEnvelope.at) c.get.ensures fault in
    let nothing = subst (λ (r : Route). AsksNothing r (parts_of c.args.request.now) (response_parts_of c.in_ok-response-in-Err-BadEnvelope.response)) (sym c.in-Outcomes.is)
    (c.in-Err-BadEnvelope.at, bad, c.in_ok-response-in-Err-BadEnvelope.ensures.answer) in
    (nothing, c.in_ok-response-in-Err-BadEnvelope.ensures.reason)
