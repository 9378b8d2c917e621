-- What a run of calls does to an office.
use Rattle.std.specs.Prelude.{◌≡◌, ℕ, true, not, List, ◌++◌, length, filter, All}
use Rattle.lti_outside.specs.DiskMoments.{LeavesOnly}
use Rattle.lti_outside.specs.declared.disk.Disk.{Ghosts}
use Rattle.lti_machine.specs.History.{Member}
use Rattle.lti_machine.specs.declared.entry.Entry.{Entry}
use Rattle.lti_desk.specs.Crash.{IsLeft}
use Rattle.lti_desk.specs.Lawful.{is_run_full, IsKeeping}
use Rattle.lti_desk.specs.Office.{OfficeValue}
use Rattle.lti_desk.specs.Reading.{IsOver}

-- a crash leaves this image behind a front of the history that is at least as long as it was at first
pub record IsLeftSince (half window : ℕ) (began : List Entry) (first trail : List Member) (image : List ℕ) : Type 0 where
  pub since : List Member
  pub behind : List Member
  pub trail_is : trail ≡ (first ++ since) ++ behind
  pub left : IsLeft half window began (first ++ since) image

-- the members that were not told that the run is full
abbrev pub answered_of : List Member → List Member
answered_of told = filter (λ m. not (is_run_full m.1)) told

-- A run of calls, each answered by the office as the one before it left it.
pub record Serves {D : Type 0} (g : Ghosts D) (from : OfficeValue D) (told : List Member) (to : OfficeValue D) : Type 0 where
  pub origin : to.origin ≡ from.origin
  pub limit : to.limit ≡ from.limit
  -- the history gained them, but those that were told that the run is full, which it was then
  pub trail : to.trail ≡ from.trail ++ answered_of told
  pub full : All (λ m. is_run_full m.1 ≡ true → length to.trail ≡ to.limit) told
  pub keeps : IsKeeping g to
  -- at each moment since the run began a crash leaves all that was accepted before it, and of the run what some front of it was
  pub moments : g.tells → IsOver to.origin (λ began. LeavesOnly g from.disk to.disk (IsLeftSince to.place.half to.origin.window began from.trail to.trail))
