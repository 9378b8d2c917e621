-- What holds of the history of every office.
use Rattle.std.specs.Prelude.{◌≡◌, ℕ, ◌≤◌, Bool, true, false, List, length, All}
use Rattle.lti_outside.specs.declared.disk.Disk.{Ghosts}
use Rattle.gate_journal.specs.Position.{place_at}
use Rattle.lti_machine.specs.EntryBytes.{IsInRange}
use Rattle.lti_machine.specs.History.{Member, after_all}
use Rattle.lti_machine.specs.declared.entry.Entry.{Entry}
use Rattle.lti_machine.specs.declared.reply.Reply.{Reply}
use Rattle.lti_machine.specs.declared.reply.Reply.TheVariants.{RunFull}
use Rattle.lti_desk.specs.Crash.{IsLeft}
use Rattle.lti_desk.specs.Legal.{Point, Legal, TellsAtMost, reach}
use Rattle.lti_desk.specs.Reading.{IsOver}
use Rattle.lti_desk.specs.Office.{OfficeValue}
use Rattle.lti_desk.specs.declared.origin.Origin.{Origin}

-- the reply tells that the run is full
abbrev pub is_run_full : Reply → Bool
is_run_full RunFull = true
is_run_full _ = false

-- where the office stood when it was mounted, over these entries
abbrev pub start : Origin → List Entry → Point
start origin entries = record { place = place_at origin.journal; entries = entries; faults = origin.faults }

-- the trail is a legal history over the entries in the pieces that were read
abbrev pub IsLawful : Origin → List Member → Type 0
IsLawful origin trail = IsOver origin (λ began. Legal origin.window (start origin began) trail)

-- what every office keeps, where its history began over this list
pub record KeepsFrom {D : Type 0} (g : Ghosts D) (office : OfficeValue D) (began : List Entry) : Type 0 where
  pub legal : Legal office.origin.window (start office.origin began) office.trail
  pub within : length office.trail ≤ office.limit
  -- the entries that were accepted can be kept, and read again
  pub in_range : All IsInRange (after_all began office.trail)
  -- the journal stands where the history leads, and each count of faults that was told is at most that of the disk
  pub place : office.place ≡ (reach (start office.origin began) office.trail).place
  pub faults : (reach (start office.origin began) office.trail).faults ≤ g.faults office.disk
  pub told : All (λ m. TellsAtMost (g.faults office.disk) m.1) office.trail
  -- each image of the disk stands for the list after the trail, or for that with an entry in doubt
  pub images : g.tells → (image : List ℕ) → g.may_leave office.disk image → IsLeft office.place.half office.origin.window began office.trail image

-- and so over the entries in the pieces that were read
abbrev pub IsKeeping : {D : Type 0} → Ghosts D → OfficeValue D → Type 0
IsKeeping g office = IsOver office.origin (λ began. KeepsFrom g office began)
