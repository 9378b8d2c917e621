-- What an office is, inside.
use Rattle.std.specs.Prelude.{◌≡◌, ℕ, ◌≤◌, List, Option}
use Rattle.lti_outside.specs.declared.disk.Disk.{Ghosts}
use Rattle.gate_journal.specs.Journal.{disk_of, place_of, doubts}
use Rattle.lti_machine.specs.History.{Member, after_all}
use Rattle.lti_machine.specs.declared.entry.Entry.{Entry}
use Rattle.lti_desk.specs.Crash.{IsDoubt}
use Rattle.lti_desk.specs.Keeper.{Knows, Keeps}
use Rattle.lti_desk.specs.Lawful.{start}
use Rattle.lti_desk.specs.Legal.{Legal, reach}
use Rattle.lti_desk.specs.Office.{OfficeValue}
use Rattle.lti_desk.specs.Reading.{AreEntries}
use Rattle.lti_desk.specs.declared.keeper.Keeper.{Keeper}
use Rattle.lti_desk.specs.declared.origin.Origin.{Origin}

-- what contracts see of an office with this keeper and this history
abbrev pub seen_as : {D : Type 0} {g : Ghosts D} → Keeper D g → List Member → ℕ → ℕ → Origin → OfficeValue D
seen_as keeper trail limit turns origin = record {
  disk = disk_of keeper.journal;
  place = place_of keeper.journal;
  doubtful = doubts keeper.journal;
  trail = trail;
  limit = limit;
  turns = turns;
  origin = origin;
}

-- the keeper stands where the trail leads, from what was read at mounting
pub record IsLed {D : Type 0} {g : Ghosts D} (keeper : Keeper D g) (origin : Origin) (trail : List Member) : Type 0 where
  pub began : List Entry
  pub read : AreEntries origin.pieces.value.items began
  pub legal : Legal origin.window (start origin began) trail
  pub knows : Knows keeper (after_all began trail)
  pub window : keeper.ledger.window.limit ≡ origin.window
  pub place : place_of keeper.journal ≡ (reach (start origin began) trail).place
  pub faults : (reach (start origin began) trail).faults ≤ g.faults (disk_of keeper.journal)
  pub images : g.tells → (doubt : Option Entry) × Keeps keeper (after_all began trail) doubt × IsDoubt origin.window began trail doubt
