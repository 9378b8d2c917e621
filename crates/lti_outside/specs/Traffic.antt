-- What passed over an end of a connection, and what a call adds to it.
use Rattle.std.specs.Prelude.{◌≡◌, ◌<◌, ℕ, List, [], ◌++◌, length, ⊤, None, Some, Option}
use Rattle.lti_outside.specs.Faults.{Rose}

-- all bytes that were taken so far, those that are left to be taken, and all that were given so far
pub record Told : Type 0 where
  pub taken : List ℕ
  pub left : List ℕ
  pub given : List ℕ

-- what an end has to tell: its bytes, where it tells them, and how often a read and a write have failed
pub record Traffic : Type 0 where
  pub told : Option Told
  pub read_faults : ℕ
  pub write_faults : ℕ

-- which fault, if any, a call met
pub data Fault : Type 0 where
  no_fault : Fault
  read_fault : Fault
  write_fault : Fault

-- these bytes were taken and those were given, where the end tells its bytes
abbrev pub Tells : Option Told → Option Told → List ℕ → List ℕ → Type 0
Tells None after read written = after ≡ None
Tells (Some before) None read written = ⊥
Tells (Some before) (Some after) read written =
    (before.left ≡ read ++ after.left) × (after.taken ≡ before.taken ++ read) × (after.given ≡ before.given ++ written)

-- the count of the fault that was met rose, and every other count is as before
abbrev pub Counts : Traffic → Traffic → Fault → Type 0
Counts before after no_fault = (after.read_faults ≡ before.read_faults) × (after.write_faults ≡ before.write_faults)
Counts before after read_fault = Rose before.read_faults after.read_faults × (after.write_faults ≡ before.write_faults)
Counts before after write_fault = (after.read_faults ≡ before.read_faults) × Rose before.write_faults after.write_faults

-- A call took the bytes `read`, gave the bytes `written`, and met this fault at its end.
pub record Moves (before after : Traffic) (read written : List ℕ) (fault : Fault) : Type 0 where
  pub bytes : Tells before.told after.told read written
  pub faults : Counts before after fault

-- nothing is left, where the bytes are told
abbrev pub HasNoneLeft : Option Told → Type 0
HasNoneLeft None = ⊤
HasNoneLeft (Some told) = told.left ≡ []

-- the input is at its end, as far as the end tells
abbrev pub IsAtEnd : Traffic → Type 0
IsAtEnd traffic = HasNoneLeft traffic.told

-- the bytes that are left are told, and are these
abbrev pub IsLeft : Traffic → List ℕ → Type 0
IsLeft traffic more = (told : Told) × (traffic.told ≡ Some told) × (more ≡ told.left)

-- the bytes are a front of the piece, and some of it is missing
abbrev pub IsProperPrefix : List ℕ → List ℕ → Type 0
IsProperPrefix front piece = (rest : List ℕ) × (0 < length rest) × (piece ≡ front ++ rest)

-- `give_all` ended at a write fault: a proper front of the piece was given
pub record GivesFront (before after : Traffic) (piece : List ℕ) : Type 0 where
  pub front : List ℕ
  pub proper : IsProperPrefix front piece
  pub moves : Moves before after [] front write_fault
