-- What contracts see of an office.
use Rattle.std.specs.Prelude.{ℕ, Bool, List}
use Rattle.gate_journal.specs.Half.{Place}
use Rattle.lti_machine.specs.History.{Member}
use Rattle.lti_desk.specs.declared.origin.Origin.{Origin}

-- its disk, where its journal stands and whether that is doubtful, the history, how many members that can have, how
-- many calls it was asked modulo 2^64, and what its history began with
pub record OfficeValue (D : Type 0) : Type 0 where
  pub disk : D
  pub place : Place
  pub doubtful : Bool
  pub trail : List Member
  pub limit : ℕ
  pub turns : ℕ
  pub origin : Origin
