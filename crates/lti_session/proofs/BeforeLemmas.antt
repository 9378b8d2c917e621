-- What is said of a request by its route, its signature and its message.
use Rattle.std.proofs.Common.{◌≡◌, inr, sym, subst, None, Some}
use Rattle.http_wire.specs.Message.{RequestParts}
use Rattle.oauth_request.specs.Checked.{Terms, IsWellSigned, Says}
use Rattle.oauth_request.specs.declared.checking.Signed.{Signed}
use Rattle.lti_provider.specs.Before.{route_refusal}
use Rattle.lti_provider.specs.Routes.{route_at}
use Rattle.lti_provider.specs.declared.routes.Route.{Route}
use Rattle.lti_session.specs.BeforeView.{IsTakeable, IsMessageJudged, IsBefore}
use Rattle.lti_session.specs.declared.before.Before.{Before}
use Rattle.lti_session.specs.declared.before.Before.TheVariants.{Refused, Asked}

pub judged_before : (terms : Terms) (q : RequestParts) (route : Route) (signed : Signed) (before : Before) → route_refusal q ≡ None → route_at q.path ≡ Some route
    → IsWellSigned terms q → Says q signed → IsTakeable signed → IsMessageJudged route q signed before → IsBefore terms q before
judged_before terms q route signed (Refused response) routed at well_signed says takes (nothing, reason) =
    (inr (inr (record { routed = routed; well_signed = well_signed; route = route; route_is = at; nothing = nothing })), reason)
judged_before terms q route signed (Asked same outcome action) routed at well_signed says takes (is, call, signed_one) = (
  record { routed = routed; well_signed = well_signed; says = subst (λ (s : Signed). Says q s) (sym is) says; route = route; route_is = at; call = call },
  signed_one,
  subst IsTakeable (sym is) takes,
)
