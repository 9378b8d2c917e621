use Rattle.std.proofs.Common.{rules, ◌≡◌, None, Some}
use Rattle.http_wire.specs.Message.{parts_of}
use Rattle.lti_provider.specs.Before.{route_refusal}
use Rattle.lti_provider.specs.Routes.{route_at}
use Rattle.lti_session.specs.BeforeView.{IsTakeable}
use Rattle.lti_session.proofs.BeforeLemmas.{judged_before}
use Rattle.lti_session.proofs.before.judge.Goals as goal

pub returns-in_ok-before-in-Ok-check : goal.returns-in_ok-before-in-Ok-check
returns-in_ok-before-in-Ok-check c =
    let routed : route_refusal (parts_of c.args.request.now) ≡ None = search rules in
    let at : route_at (parts_of c.args.request.now).path ≡ Some c.in-Ok.route = search rules in
    let takes : IsTakeable c.in-Ok-check.signed = search rules in
    judged_before _ (parts_of c.args.request.now) c.in-Ok.route c.in-Ok-check.signed c.in_ok-before-in-Ok-check.before routed at (search rules) (search rules) takes c.in_ok-before-in-Ok-check.ensures
