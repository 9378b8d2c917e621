-- What the tool's end makes of a launch form (LTI 1.1.1, sections 3 and 4.2).
use Rattle.std.specs.Prelude.{◌≡◌, ◌≤◌, ℕ, List, length, None}
use Rattle.lti_outside.specs.declared.pairs.Pair.{Pair}
use Rattle.oauth_text.specs.Form.{pairs_of}
use Rattle.oauth_text.specs.Url.{UrlParts}
use Rattle.http_wire.specs.Message.{RequestParts}
use Rattle.oauth_request.specs.Checked as checked
use Rattle.oauth_request.specs.declared.checking.Signed.{Signed}
use Rattle.oauth_request.specs.Signing.{CanSign, AreTermsOf, IsSignedForm, PostsForm}
use Rattle.lti_provider.specs.Before.{route_refusal, IsAsked}
use Rattle.lti_consumer.specs.Launches.{launch_fields, noted_launch}
use Rattle.lti_consumer.specs.Laws.{HoldsNoField, SaysLaunch}
use Rattle.lti_consumer.specs.declared.terms.Terms.{Terms}

-- what a signed request says of itself
abbrev pub signed_as : List ℕ → ℕ → List ℕ → RequestParts → Signed
signed_as key moment nonce q = record { key = key; timestamp = moment; nonce = nonce; pairs = checked.parameters q }

-- the request is well signed and says the launch of these terms; the machine of the tool's end is asked to note it, where
-- launches are answered at the URL's path
pub record AsksLaunch (other : checked.Terms) (terms : Terms) (key : List ℕ) (moment : ℕ) (nonce : List ℕ) (q : RequestParts) : Type 0 where
  pub says : SaysLaunch other terms key moment nonce q
  pub asked : route_refusal q ≡ None → IsAsked other q (signed_as key moment nonce q) None (noted_launch terms)

-- A launch form that is posted to its URL asks to note the launch of its terms, at an end that knows the key with this
-- secret, takes a key and a nonce as long as these, and is reached by the URL's scheme, where the URL's query has no
-- parameter of a launch.
abbrev pub LaunchIsNoted : Type 0
LaunchIsNoted =
    (other : checked.Terms) (url : UrlParts) (terms : Terms) (form : List Pair) (key secret nonce : List ℕ) (moment : ℕ) (q : RequestParts)
    → 1 ≤ length terms.link → CanSign key moment nonce → AreTermsOf other url key secret nonce → HoldsNoField (pairs_of url.query)
    → IsSignedForm url (launch_fields terms) key secret moment nonce form → PostsForm url form q → AsksLaunch other terms key moment nonce q
