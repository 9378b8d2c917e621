-- What the program says of a request before the machine is asked.
use Rattle.std.specs.Prelude.{◌≡◌, ◌≤◌, false}
use Rattle.http_wire.specs.Message.{RequestParts, response_parts_of}
use Rattle.http_wire.specs.Response.{HasReason}
use Rattle.oauth_request.specs.Checked.{Terms}
use Rattle.oauth_request.specs.declared.checking.Signed.{Signed}
use Rattle.lti_machine.specs.Rules.{is_issue}
use Rattle.lti_machine.specs.Sound.{IsShort, greatest_moment}
use Rattle.lti_provider.specs.Before.{AsksNothing, Asks, IsRefused, IsAsked}
use Rattle.lti_provider.specs.declared.routes.Route.{Route}
use Rattle.lti_session.specs.declared.before.Before.{Before}
use Rattle.lti_session.specs.declared.before.Before.TheVariants.{Refused, Asked}

-- the machine takes what the request says
pub record IsTakeable (signed : Signed) : Type 0 where
  pub key : IsShort signed.key
  pub timestamp : (1 ≤ signed.timestamp) × (signed.timestamp ≤ greatest_moment)
  pub nonce : IsShort signed.nonce

-- what is said of the message of a request of this route that is well signed
abbrev pub IsMessageJudged : Route → RequestParts → Signed → Before → Type 0
IsMessageJudged route q signed (Refused response) = AsksNothing route q (response_parts_of response) × HasReason response.status
IsMessageJudged route q signed (Asked same outcome action) = (same ≡ signed) × Asks route q outcome action × (is_issue action ≡ false)

abbrev pub IsBefore : Terms → RequestParts → Before → Type 0
IsBefore terms q (Refused response) = IsRefused terms q (response_parts_of response) × HasReason response.status
IsBefore terms q (Asked signed outcome action) =
    IsAsked terms q signed outcome action × (is_issue action ≡ false) × IsTakeable signed
