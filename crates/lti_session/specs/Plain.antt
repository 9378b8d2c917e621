-- The plain machine, as a connection asks it (this project's own).
use Rattle.std.specs.Prelude.{◌≡◌, ℕ, List}
use Rattle.lti_machine.specs.History.{Decides}
use Rattle.lti_machine.specs.declared.call.Call.{Call}
use Rattle.lti_machine.specs.declared.entry.Entry.{Entry}
use Rattle.lti_machine.specs.declared.reply.Reply.{Reply}

-- the entries that it has accepted, and how many nonces a key may have that aren't forgotten
pub record PlainState : Type 0 where
  pub accepted : List Entry
  pub window : ℕ

-- it goes by the rules over what it has accepted, and its window stays
abbrev pub PlainStep : PlainState → Call → Reply → PlainState → Type 0
PlainStep from call given to = Decides from.window from.accepted call given to.accepted × (to.window ≡ from.window)
