-- What a journal promises of its disk.
use Rattle.std.specs.Prelude.{ℕ, Bool, true, false, List}
use Rattle.lti_outside.specs.declared.disk.Disk.{Ghosts}
use Rattle.gate_journal.specs.Half.{Place}
use Rattle.gate_journal.specs.Doubt.{Stands, IsInDoubt}
use Rattle.gate_journal.specs.declared.doubt.Doubt.{Doubt}
use Rattle.gate_journal.specs.declared.doubt.Doubt.TheVariants.{Nothing, Piece, Half}
use Rattle.gate_journal.specs.declared.journal.Journal.{Journal}

-- the disk of a journal
abbrev pub disk_of : {D : Type 0} {g : Ghosts D} → Journal D g → D
disk_of journal = journal.disk

-- where it stands
abbrev pub place_of : {D : Type 0} {g : Ghosts D} → Journal D g → Place
place_of journal = record { half = journal.half; second = journal.is_second; generation = journal.generation; gate = journal.gate }

-- whether a gate is in doubt
abbrev pub is_doubt : Doubt → Bool
is_doubt Nothing = false
is_doubt Piece = true
is_doubt Half = true

abbrev pub doubts : {D : Type 0} {g : Ghosts D} → Journal D g → Bool
doubts journal = is_doubt journal.doubt

-- the disk tells what it holds, and each of its images stands for these payloads
pub record Keeps {D : Type 0} {g : Ghosts D} (journal : Journal D g) (payloads : List (List ℕ)) : Type 0 where
  pub tells : g.tells
  pub each : (image : List ℕ) → g.may_leave journal.disk image → Stands image (place_of journal) journal.is_open journal.may_open payloads

-- the disk tells what it holds, and each of its images stands for these payloads or for the others, as the gate in
-- doubt is read
pub record MayKeep {D : Type 0} {g : Ghosts D} (journal : Journal D g) (payloads others : List (List ℕ)) : Type 0 where
  pub tells : g.tells
  pub each : (image : List ℕ) → g.may_leave journal.disk image
      → IsInDoubt journal.doubt image (place_of journal) journal.is_open journal.may_open payloads others
