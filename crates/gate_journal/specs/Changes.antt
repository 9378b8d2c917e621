-- What a crash leaves of a call that puts other pieces in the place of those that stand.
use Rattle.std.specs.Prelude.{◌≡◌, ℕ, ◌-◌, true, false, List, length, Result, OnOk, OnErr}
use Rattle.lti_outside.specs.DiskMoments.{LeavesOnly}
use Rattle.lti_outside.specs.declared.disk.Disk.{Ghosts}
use Rattle.gate_journal.specs.Half.{packed_place, packed_of, IsEither}
use Rattle.gate_journal.specs.Journal.{disk_of, place_of, doubts, Keeps, MayKeep}
use Rattle.gate_journal.specs.declared.journal.Journal.{Journal}

-- The journal kept the payloads, and the call is to make it keep the others.
pub record Changes {D : Type 0} {g : Ghosts D} {T E : Type 0} (old new : Journal D g) (result : Result T E) (payloads others : List (List ℕ)) : Type 0 where
  -- a crash at any moment of the call leaves the payloads or the others
  pub any_moment : LeavesOnly g (disk_of old) (disk_of new) (IsEither (place_of old).half payloads others)
  -- from an Ok on it leaves the others
  pub kept : OnOk result (Keeps new others)
  -- after a fault it leaves the payloads
  pub clear : OnErr result (doubts new ≡ false → Keeps new payloads)
  -- unless the journal is doubtful: then it leaves the one or the other
  pub doubt : doubts new ≡ true → MayKeep new payloads others

-- The call is to put pieces, packed with that generation, in the place of those that stand.
pub record Repacks {D : Type 0} {g : Ghosts D} {T E : Type 0} (old new : Journal D g) (result : Result T E) (generation : ℕ) (packed : List ℕ) : Type 0 where
  -- after Ok the other half is current, with that generation, and its end gate stands behind the pieces
  pub place : OnOk result (place_of new ≡ packed_place (place_of old) generation (length packed - 9))
  -- and no gate is in doubt
  pub settled : OnOk result (doubts new ≡ false)
  -- after a fault, and on Full, the journal stands where it stood
  pub place_err : OnErr result (place_of new ≡ place_of old)
  -- what a crash leaves, whatever the journal kept and whichever pieces were packed
  pub crash : (payloads pieces : List (List ℕ)) → packed ≡ packed_of generation pieces → Keeps old payloads → Changes old new result payloads pieces
