-- What holds of the requests that send a grade back.
use Rattle.std.specs.Prelude.{◌≡◌, ◌<◌, ◌^◌, ℕ, true, List, length, Some}
use Rattle.oauth_text.specs.Url.{UrlParts, IsUrl}
use Rattle.oauth_request.specs.Checked.{Terms, parameters}
use Rattle.oauth_request.specs.Signing.{CanSign, AreTermsOf, IsSignedBody}
use Rattle.http_wire.specs.Message.{RequestParts}
use Rattle.http_wire.specs.Written.{is_media, IsSoundRequest}
use Rattle.pox_outcomes.specs.Laws.{IsFitting}
use Rattle.lti_machine.specs.declared.call.Action.{Action}
use Rattle.lti_provider.specs.Before.{IsAsked}
use Rattle.lti_provider.specs.Routes.{path_of}
use Rattle.lti_provider.specs.declared.routes.Route.TheVariants.{Outcomes}
use Rattle.lti_asks.specs.Outcomes.{IsAskedBy}
use Rattle.lti_provider.specs.Passback.{Sending, IsPosted}

-- the parts are those of some URL
abbrev pub IsSomeUrl : UrlParts → Type 0
IsSomeUrl url = ∥ ((text : List ℕ) × IsUrl text url) ∥₁

-- A signed body that is posted to a URL can be written: it is read as this request, where no limit is in the way.
abbrev pub SignedIsWritable : Type 0
SignedIsWritable =
    (url : UrlParts) (media body key secret nonce : List ℕ) (moment : ℕ) (q : RequestParts)
    → IsSomeUrl url → is_media media ≡ true → length body < 10 ^ 19 → IsSignedBody url media body key secret moment nonce q → IsSoundRequest q

-- A request that posts an outcome asks for this outcome, and for what it asks, at an end that knows the key with this
-- secret, takes a key and a nonce as long as these, is reached by the URL's scheme, and answers outcomes at the URL's path.
abbrev pub SentIsAsked : Type 0
SentIsAsked =
    (terms : Terms) (sending : Sending) (q : RequestParts) (action : Action)
    → CanSign sending.key sending.moment sending.nonce → AreTermsOf terms sending.url sending.key sending.secret sending.nonce
    → sending.url.path ≡ path_of Outcomes → IsFitting sending.outcome → IsPosted sending q → IsAskedBy sending.outcome action
    → IsAsked terms q (record { key = sending.key; timestamp = sending.moment; nonce = sending.nonce; pairs = parameters q }) (Some sending.outcome) action
