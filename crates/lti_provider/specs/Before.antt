-- What is answered to a request before the machine is asked, or what the machine is asked (this project's own; the statuses
-- are those of RFC 9110, section 15).
use Rattle.std.specs.Prelude.{◌≡◌, ◌⊎◌, ℕ, not, ◌||◌, codes, bytes_eq, if◌then◌else◌, Option, None, Some}
use Rattle.http_wire.specs.Message.{RequestParts, ResponseParts}
use Rattle.oauth_request.specs.Checked.{Terms, parameters, IsWellSigned, IsAuthFault, Says}
use Rattle.oauth_request.specs.declared.checking.Signed.{Signed}
use Rattle.oauth_request.specs.declared.faults.AuthFault.{AuthFault}
use Rattle.oauth_request.specs.declared.faults.AuthFault.TheVariants as auth
use Rattle.lti_launch.specs.Faults.{fault_of}
use Rattle.lti_launch.specs.declared.fault.LaunchFault.{LaunchFault}
use Rattle.pox_outcomes.specs.Request.{EnvelopeOf}
use Rattle.pox_outcomes.specs.BadAt.{IsBadAt}
use Rattle.pox_outcomes.specs.declared.outcome.Outcome.{Outcome}
use Rattle.lti_machine.specs.declared.call.Action.{Action}
use Rattle.lti_provider.specs.Routes.{takes, route_at}
use Rattle.lti_provider.specs.declared.routes.Route.{Route}
use Rattle.lti_provider.specs.declared.routes.Route.TheVariants.{Launches, Outcomes}
use Rattle.lti_provider.specs.Answers.{plain, answer_to, auth_answer, launch_answer, envelope_answer}
use Rattle.lti_asks.specs.Launches.{IsLaunchCall}
use Rattle.lti_asks.specs.Outcomes.{IsOutcomeCall}

-- the answer to a request of this route, or of none, by another method than POST, or with another body than the route takes
abbrev pub refusal_by : Option Route → RequestParts → Option ResponseParts
refusal_by None q = Some (plain 404 (codes "not found"))
refusal_by (Some route) q =
    if not (bytes_eq q.method (codes "POST")) then Some (plain 405 (codes "method not allowed"))
    else if q.encoded || not (takes route q.media) then Some (plain 415 (codes "unsupported media type"))
    else None

-- the answer to a request of another path, another method, or another body than the path's that isn't compressed
abbrev pub route_refusal : RequestParts → Option ResponseParts
route_refusal q = refusal_by (route_at q.path) q

-- the message of a request of this route asks nothing, and is answered so: parameters that are no launch, or a body that is no
-- envelope
abbrev pub AsksNothing : Route → RequestParts → ResponseParts → Type 0
AsksNothing Launches q answer = (fault : LaunchFault) × (fault_of (parameters q) ≡ Some fault) × (answer ≡ launch_answer fault)
AsksNothing Outcomes q answer = (at : ℕ) × IsBadAt EnvelopeOf q.body at × (answer ≡ envelope_answer at)

-- what a request of this route asks; the outcome is the request's, if it is an outcome's
abbrev pub Asks : Route → RequestParts → Option Outcome → Action → Type 0
Asks Launches q None action = IsLaunchCall (parameters q) action
Asks Launches q (Some outcome) action = ⊥
Asks Outcomes q None action = ⊥
Asks Outcomes q (Some outcome) action = IsOutcomeCall q.body outcome action

-- the request is refused by its route
pub record IsMisrouted (q : RequestParts) (answer : ResponseParts) : Type 0 where
  pub refusal : ResponseParts
  pub refused : route_refusal q ≡ Some refusal
  pub answer_is : answer ≡ answer_to q refusal

-- the request is refused because it isn't well signed
pub record IsUnsigned (terms : Terms) (q : RequestParts) (answer : ResponseParts) : Type 0 where
  pub routed : route_refusal q ≡ None
  pub fault : AuthFault
  pub known : fault ≡ auth.NoMemory → ⊥
  pub is_fault : IsAuthFault terms q fault
  pub answer_is : answer ≡ auth_answer fault

-- the request is well signed, and refused because its message asks nothing
pub record IsNoMessage (terms : Terms) (q : RequestParts) (answer : ResponseParts) : Type 0 where
  pub routed : route_refusal q ≡ None
  pub well_signed : IsWellSigned terms q
  pub route : Route
  pub route_is : route_at q.path ≡ Some route
  pub nothing : AsksNothing route q answer

-- the request is answered so before the machine is asked
abbrev pub IsRefused : Terms → RequestParts → ResponseParts → Type 0
IsRefused terms q answer = IsMisrouted q answer ⊎ IsUnsigned terms q answer ⊎ IsNoMessage terms q answer

-- the machine is asked this, for what the request says; the outcome is the request's, if it is an outcome's
pub record IsAsked (terms : Terms) (q : RequestParts) (signed : Signed) (outcome : Option Outcome) (action : Action) : Type 0 where
  pub routed : route_refusal q ≡ None
  pub well_signed : IsWellSigned terms q
  pub says : Says q signed
  pub route : Route
  pub route_is : route_at q.path ≡ Some route
  pub call : Asks route q outcome action
