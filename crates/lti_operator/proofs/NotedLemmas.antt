-- What the tool's end is asked by a launch form that is posted.
use Rattle.std.proofs.Common.{◌≡◌, Bool, true, false, not, ◌||◌, if◌then◌else◌, codes, bytes_eq, refl, sym, ◌∙◌, Option, None, Some}
use Rattle.std.proofs.lemmas.Option.{none-some}
use Rattle.http_wire.specs.Message.{RequestParts, ResponseParts}
use Rattle.oauth_request.specs.Checked.{form_type}
use Rattle.lti_provider.specs.Answers.{plain}
use Rattle.lti_provider.specs.Before.{refusal_by}
use Rattle.lti_provider.specs.Routes.{takes, route_at}
use Rattle.lti_provider.specs.declared.routes.Route.{Route}
use Rattle.lti_provider.specs.declared.routes.Route.TheVariants.{Launches, Outcomes}
use Rattle.lti_consumer.proofs.LaunchLemmas.{form_says_launch}
use Rattle.lti_operator.specs.Laws.{LaunchIsNoted}

-- what no route takes is refused
refused_other : (post encoded : Bool) (misused unknown : ResponseParts) → (if not post then Some misused else if encoded || true then Some unknown else None) ≡ None → ⊥
refused_other false encoded misused unknown routed = none-some misused (sym routed)
refused_other true false misused unknown routed = none-some unknown (sym routed)
refused_other true true misused unknown routed = none-some unknown (sym routed)

-- a form that isn't refused by its route is a launch's
at_launches : (route : Option Route) (q : RequestParts) → q.media ≡ form_type → refusal_by route q ≡ None → route ≡ Some Launches
at_launches None q media routed = absurd (none-some (plain 404 (codes "not found")) (sym routed))
at_launches (Some Launches) q media routed = refl
at_launches (Some Outcomes) q media routed =
    absurd (refused_other (bytes_eq q.method (codes "POST")) q.encoded (plain 405 (codes "method not allowed")) (plain 415 (codes "unsupported media type"))
    (sym (λ i. refusal (not_taken i)) ∙ routed))
  where
    not_taken : takes Outcomes q.media ≡ false
    not_taken = rw media refl

    refusal : Bool → Option ResponseParts
    refusal taken =
        if not (bytes_eq q.method (codes "POST")) then Some (plain 405 (codes "method not allowed"))
        else if q.encoded || not taken then Some (plain 415 (codes "unsupported media type"))
        else None

pub launch_is_noted : LaunchIsNoted
launch_is_noted other url terms form key secret nonce moment q some can are free made posts =
    let says = form_says_launch other url terms form key secret nonce moment q some can are free made posts in
    record {
      says = says;
      asked = λ routed. record {
        routed = routed;
        well_signed = says.believed.well_signed;
        says = says.believed.says;
        route = Launches;
        route_is = at_launches (route_at q.path) q posts.media routed;
        call = says.call;
      };
    }
