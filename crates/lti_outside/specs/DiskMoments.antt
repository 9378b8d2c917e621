-- What a crash leaves at each moment of a run of calls of a disk.
use Rattle.std.specs.Prelude.{◌≡◌, ◌⊎◌, ℕ, ◌≤◌, List}
use Rattle.lti_outside.specs.declared.disk.Disk.{Ghosts}

-- A crash at any moment since old leaves an image that has P.
pub record LeavesOnly {D : Type 0} (g : Ghosts D) (old new : D) (P : List ℕ → Type 0) : Type 0 where
  pub later : g.moment old ≤ g.moment new
  pub each : (image : List ℕ) → g.left_since new (g.moment old) image → P image
  -- for a run that began earlier
  pub before : (t : ℕ) (image : List ℕ) → t ≤ g.moment old → g.left_since new t image → g.left_since old t image ⊎ P image

-- Calls that change nothing: reads give what they gave, and each image at each moment was one at the start.
pub record OnlyReads {D : Type 0} (g : Ghosts D) (old new : D) : Type 0 where
  pub same : g.seen new ≡ g.seen old
  pub fewer : (image : List ℕ) → g.may_leave new image → g.may_leave old image
  pub moments : LeavesOnly g old new (g.may_leave old)
