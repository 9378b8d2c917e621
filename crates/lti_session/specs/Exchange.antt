-- The exchanges of a connection: each a request that its bytes spell, what was asked of the machine for it, and its answer.
use Rattle.std.specs.Prelude.{◌≡◌, ◌<◌, ◌+◌, ℕ, Bool, false, ◌||◌, nat_le, List, [], ◌∷◌, Option, None, Some}
use Rattle.std.specs.List.{flat_map}
use Rattle.lti_outside.specs.Moment.{IsTold}
use Rattle.lti_outside.specs.declared.limits.Limits.{Limits}
use Rattle.lti_outside.specs.declared.pairs.Pair.{Pair}
use Rattle.oauth_text.specs.declared.url.Scheme.{Scheme}
use Rattle.http_wire.specs.Message.{RequestParts, ResponseParts}
use Rattle.http_wire.specs.Spelling.{Spelling}
use Rattle.http_wire.specs.Response.{response_text}
use Rattle.oauth_request.specs.Checked as checked
use Rattle.oauth_request.specs.declared.checking.Signed.{Signed}
use Rattle.lti_machine.specs.History.{Member}
use Rattle.lti_machine.specs.declared.call.Call.{Call}
use Rattle.pox_outcomes.specs.declared.outcome.Outcome.{Outcome}
use Rattle.lti_provider.specs.Answers.{IsRendered}
use Rattle.lti_provider.specs.Before.{IsRefused, IsAsked}

-- what a connection is served under: the limits, the number of its caller, the keys with their secrets, the scheme by
-- which this end is reached, and the moment that the clock gives, where it tells one
pub record Service : Type 0 where
  pub limits : Limits
  pub caller : ℕ
  pub keys : List Pair
  pub scheme : Scheme
  pub clock : Option ℕ

-- what its requests are checked under
abbrev pub terms_of : Service → checked.Terms
terms_of service = record { keys = service.keys; scheme = service.scheme; field = service.limits.field }

-- one request: its bytes, its parts, what was asked of the machine for it, its answer, and whether the connection ends
-- with that
pub record Exchange : Type 0 where
  pub spelled : List ℕ
  pub request : RequestParts
  pub told : Option Member
  pub answer : ResponseParts
  pub ends : Bool

-- the call is made for what a well signed request says, at a moment of the clock
pub record IsCallOf (service : Service) (signed : Signed) (call : Call) : Type 0 where
  pub caller : call.caller ≡ service.caller
  pub moment : IsTold service.clock call.moment
  pub key : call.key ≡ signed.key
  pub timestamp : call.timestamp ≡ signed.timestamp
  pub nonce : call.nonce ≡ signed.nonce

-- the answer is given before the machine is asked, or renders the reply to the request's call
abbrev pub IsAnswerTo : Service → RequestParts → Option Member → ResponseParts → Type 0
IsAnswerTo service q None answer = IsRefused (terms_of service) q answer
IsAnswerTo service q (Some member) answer =
    (signed : Signed) × (outcome : Option Outcome) × IsAsked (terms_of service) q signed outcome member.0.action
    × IsCallOf service signed member.0 × IsRendered outcome member.1 answer

-- the connection ends with the answer to this request, where `count` came before it
abbrev pub ends_with : Limits → ℕ → RequestParts → Bool
ends_with limits count q = q.close || nat_le limits.requests (count + 1)

pub record IsExchange (service : Service) (count : ℕ) (e : Exchange) : Type 0 where
  pub spelling : Spelling service.limits e.spelled e.request
  pub answer : IsAnswerTo service e.request e.told e.answer
  pub ends : e.ends ≡ ends_with service.limits count e.request

-- how many requests were answered, and whether the last answer ended the connection
pub record Progress : Type 0 where
  pub count : ℕ
  pub over : Bool

-- exchanges, one after another, as many as the limit allows; none follows one that ends the connection
abbrev pub Runs : Service → Progress → List Exchange → Progress → Type 0
Runs service from [] to = to ≡ from
Runs service from (e ∷ es) to =
    (from.over ≡ false) × (from.count < service.limits.requests) × IsExchange service from.count e
    × Runs service record { count = from.count + 1; over = e.ends } es to

-- the bytes that their requests were read from
abbrev pub read_of : List Exchange → List ℕ
read_of es = flat_map (λ e. e.spelled) es

-- the bytes of their answers
abbrev pub written_of : List Exchange → List ℕ
written_of es = flat_map (λ e. response_text e.answer e.ends) es

abbrev pub told_by : Option Member → List Member
told_by None = []
told_by (Some member) = member ∷ []

-- the calls that they made, with their replies
abbrev pub told_of : List Exchange → List Member
told_of es = flat_map (λ e. told_by e.told) es
