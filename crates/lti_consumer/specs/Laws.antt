-- What a launch form says to whoever reads it (LTI 1.1.1, sections 3 and 4.2).
use Rattle.std.specs.Prelude.{◌≡◌, ◌≤◌, ℕ, false, List, length}
use Rattle.std.specs.List.{list_any}
use Rattle.lti_outside.specs.declared.pairs.Pair.{Pair}
use Rattle.oauth_text.specs.Form.{pairs_of}
use Rattle.oauth_text.specs.Url.{UrlParts}
use Rattle.http_wire.specs.Message.{RequestParts}
use Rattle.oauth_request.specs.Checked as checked
use Rattle.oauth_request.specs.Signing.{CanSign, AreTermsOf, IsSignedForm, PostsForm, IsBelieved}
use Rattle.lti_launch.specs.Parameters.{is_field}
use Rattle.lti_asks.specs.Launches.{IsLaunchCall}
use Rattle.lti_consumer.specs.Launches.{launch_fields, noted_launch}
use Rattle.lti_consumer.specs.declared.terms.Terms.{Terms}

-- no parameter of a launch stands among the pairs
abbrev pub HoldsNoField : List Pair → Type 0
HoldsNoField pairs = list_any is_field pairs ≡ false

-- the request is well signed, and its parameters are the launch of these terms
pub record SaysLaunch (other : checked.Terms) (terms : Terms) (key : List ℕ) (moment : ℕ) (nonce : List ℕ) (q : RequestParts) : Type 0 where
  pub believed : IsBelieved other key moment nonce q
  pub call : IsLaunchCall (checked.parameters q) (noted_launch terms)

-- A launch form that is posted to its URL says the launch of its terms, at an end that knows the key with this secret, takes a
-- key and a nonce as long as these, and is reached by the URL's scheme, where the URL's query has no parameter of a launch.
abbrev pub FormSaysLaunch : Type 0
FormSaysLaunch =
    (other : checked.Terms) (url : UrlParts) (terms : Terms) (form : List Pair) (key secret nonce : List ℕ) (moment : ℕ) (q : RequestParts)
    → 1 ≤ length terms.link → CanSign key moment nonce → AreTermsOf other url key secret nonce → HoldsNoField (pairs_of url.query)
    → IsSignedForm url (launch_fields terms) key secret moment nonce form → PostsForm url form q → SaysLaunch other terms key moment nonce q
