-- What a write that is on the disk before the next step leaves, whether or not it was done.
use Rattle.std.specs.Prelude.{ℕ, List, length}
use Rattle.lti_outside.specs.Disk.{Holds, Torn, TornFrom, Only}
use Rattle.lti_outside.specs.DiskMoments.{LeavesOnly}
use Rattle.lti_outside.specs.declared.disk.Disk.{Ghosts}

-- the bytes in the range may be any, as reads give them and in each image at each moment
pub record Wrote {D : Type 0} (g : Ghosts D) (place : ℕ) (bytes : List ℕ) (old new : D) : Type 0 where
  pub torn : Torn place (length bytes) (g.seen old) (g.seen new)
  pub crash : (image : List ℕ) → g.may_leave new image → TornFrom place (length bytes) (g.may_leave old) image
  pub moments : LeavesOnly g old new (TornFrom place (length bytes) (g.may_leave old))

-- and once it was done, they are those that were written, in each image
pub record Synced {D : Type 0} (g : Ghosts D) (place : ℕ) (bytes : List ℕ) (old new : D) : Type 0 where
  pub written : Holds (g.seen old) place bytes (g.seen new)
  pub durable : Only (g.seen new) (g.may_leave new)
