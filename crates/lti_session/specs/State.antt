-- A session, as contracts see it.
use Rattle.std.specs.Prelude.{ℕ, List, Bool, Option}
use Rattle.pox_outcomes.specs.declared.outcome.Outcome.{Outcome}

-- the answer that is owed to a call: whether it ends the connection, and the outcome that it answers, if it answers one
pub record Owed : Type 0 where
  pub ends : Bool
  pub outcome : Option Outcome

-- the bytes that it has taken and not answered, the number of its caller, how many requests it has taken, whether its last
-- answer ended the connection, the answer that it owes, and whether it has ended
pub record SessionState : Type 0 where
  pub kept : List ℕ
  pub caller : ℕ
  pub count : ℕ
  pub over : Bool
  pub pending : Option Owed
  pub ended : Bool
