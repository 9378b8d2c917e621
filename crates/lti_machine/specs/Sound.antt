-- The calls that the machine takes. RFC 5849 section 3.3 has a positive timestamp; the other bounds are this
-- project's own.
use Rattle.std.specs.Prelude.{◌≡◌, ℕ, ◌≤◌, ◌⊎◌, true, false, List, [], length}
use Rattle.lti_machine.specs.Rules.{is_issue}
use Rattle.lti_machine.specs.declared.call.Call.{Call}

-- the greatest moment, and the greatest timestamp, in seconds: fifteen digits
abbrev pub greatest_moment : ℕ
greatest_moment = 999999999999999

-- 1 to 255 bytes
abbrev pub IsShort : List ℕ → Type 0
IsShort text = (1 ≤ length text) × (length text ≤ 255)

-- the timestamp and the nonce of a signed call are in their ranges
pub record IsStamped (call : Call) : Type 0 where
  pub signed : is_issue call.action ≡ false
  pub timestamp : (1 ≤ call.timestamp) × (call.timestamp ≤ greatest_moment)
  pub nonce : IsShort call.nonce

-- an operator's call has neither a timestamp nor a nonce
pub record IsUnstamped (call : Call) : Type 0 where
  pub unsigned : is_issue call.action ≡ true
  pub timestamp : call.timestamp ≡ 0
  pub nonce : call.nonce ≡ []

-- each part of the call is in its range
pub record IsSound (call : Call) : Type 0 where
  pub moment : call.moment ≤ greatest_moment
  pub key : IsShort call.key
  pub stamp : IsStamped call ⊎ IsUnstamped call
