-- What the calls of a disk in memory lead to.
use Rattle.std.specs.Prelude.{◌≡◌, ℕ, ◌+◌, ◌-◌, ◌≤◌, true, false, List, [], ◌∷◌, ◌++◌, length, take, drop}
use Rattle.lti_outside.specs.Disk.{Torn}
use Rattle.lti_outside.specs.declared.disk_call.DiskCall.{DiskCall}
use Rattle.lti_outside.specs.declared.disk_call.DiskCall.TheVariants.{Read, Write, Sync}

-- the bytes that the disk began with, and its calls in order
pub record Log : Type 0 where
  pub first : List ℕ
  pub calls : List DiskCall

-- one call more
abbrev pub pushed : Log → DiskCall → Log
pushed log call = record { first = log.first; calls = log.calls ++ call ∷ [] }

-- the bytes as last synced, the bytes as reads give them, and the places and lengths written since, in order
pub record State : Type 0 where
  pub synced : List ℕ
  pub reads : List ℕ
  pub spans : List (ℕ × ℕ)

-- the bytes put at a place, cut at the end
abbrev pub put : List ℕ → ℕ → List ℕ → List ℕ
put old place bytes = take place old ++ take (length old - place) bytes ++ drop (place + length bytes) old

-- one call on
abbrev pub after : State → DiskCall → State
after s (Read place len) = s
after s (Write place piece) = record {
  synced = s.synced;
  reads = put s.reads place piece.list;
  spans = s.spans ++ (place, length piece.list) ∷ [];
}
after s (Sync true) = record { synced = s.reads; reads = s.reads; spans = [] }
after s (Sync false) = s

-- calls in order
abbrev pub run : State → List DiskCall → State
run s [] = s
run s (call ∷ calls) = run (after s call) calls

-- all of these bytes are on the disk
abbrev pub settled : List ℕ → State
settled bytes = record { synced = bytes; reads = bytes; spans = [] }

-- the state after the calls
abbrev pub state_of : Log → State
state_of log = run (settled log.first) log.calls

-- new is old with any bytes in each of the ranges
abbrev pub Reached : List (ℕ × ℕ) → List ℕ → List ℕ → Type 0
Reached [] old new = new ≡ old
Reached (span ∷ spans) old new = (mid : List ℕ) × Torn span.0 span.1 old mid × Reached spans mid new

-- an image that a crash in this state may leave
abbrev pub IsImage : State → List ℕ → Type 0
IsImage s image = Reached s.spans s.synced image

-- an image that a crash at a moment since t might have left
abbrev pub LeftSince : Log → ℕ → List ℕ → Type 0
LeftSince log t image =
    (k : ℕ) × (t ≤ k) × (k ≤ length log.calls) × IsImage (state_of (record { first = log.first; calls = take k log.calls })) image

-- the bytes as reads give them, and an image: as last synced for the pick 0, and as reads give it for 1
pub record IsMixed (pick : ℕ) (s : State) (reads image : List ℕ) : Type 0 where
  pub reads_are : reads ≡ s.reads
  pub is_image : IsImage s image
  pub as_synced : pick ≡ 0 → image ≡ s.synced
  pub as_written : pick ≡ 1 → image ≡ s.reads
