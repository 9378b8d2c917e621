-- Room for the answer that a session owes.
use Rattle.std.specs.Prelude.{ℕ, ◌≤◌, Option, None, Some}
use Rattle.pox_outcomes.specs.Answered.{room_of}
use Rattle.pox_outcomes.specs.declared.outcome.Outcome.{Outcome}

-- How many bytes the body of an answer has at most: 64 in plain text, and as many as its texts need, which are more than
-- 64, in an envelope.
abbrev pub body_room : Option Outcome → ℕ
body_room None = 64
body_room (Some outcome) = room_of outcome

-- so many bytes hold the body of every answer
abbrev pub HasRoom : Option Outcome → ℕ → Type 0
HasRoom outcome room = body_room outcome ≤ room
