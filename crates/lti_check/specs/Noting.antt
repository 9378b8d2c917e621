-- What the window of nonces holds of the calls that were accepted, and what noting one more does (this project's own).
use Rattle.std.specs.Prelude.{◌≡◌, ℕ, List}
use Rattle.lti_machine.specs.Rules.{decide, after, high}
use Rattle.lti_machine.specs.declared.call.Call.{Call}
use Rattle.lti_machine.specs.declared.entry.Entry.{Entry}
use Rattle.lti_machine.specs.declared.reply.Reply.{Reply}
use Rattle.nonce_window.specs.Window.{WindowValue, Holds}

-- the window holds the nonces of these calls at their greatest moment, and a key may have so many at once
pub record HoldsCalls (limit : ℕ) (window : WindowValue) (accepted : List Entry) : Type 0 where
  pub nonces : Holds window accepted
  pub moment : window.high ≡ high accepted
  pub most : window.limit ≡ limit

-- whichever calls the window held, the reply is the one decided over them, and it holds those after it
abbrev pub Notes : ℕ → WindowValue → Call → Reply → WindowValue → Type 0
Notes limit before call reply later =
    (accepted : List Entry) → HoldsCalls limit before accepted
    → (reply ≡ decide accepted call limit) × HoldsCalls limit later (after accepted call reply)
