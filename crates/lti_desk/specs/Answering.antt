-- What an answer of an office does.
use Rattle.std.specs.Prelude.{◌≡◌, ◌⊎◌, ℕ, true, false, List, [], ◌∷◌, ◌++◌}
use Rattle.lti_outside.specs.DiskMoments.{LeavesOnly}
use Rattle.lti_outside.specs.Faults.{Rose}
use Rattle.lti_outside.specs.declared.disk.Disk.{Ghosts}
use Rattle.lti_machine.specs.History.{after_all}
use Rattle.lti_machine.specs.Rules.{is_acceptance}
use Rattle.lti_machine.specs.declared.call.Call.{Call}
use Rattle.lti_machine.specs.declared.entry.Entry.{Entry}
use Rattle.lti_machine.specs.declared.reply.Reply.{Reply}
use Rattle.lti_machine.specs.declared.reply.Reply.TheVariants.{DiskFault}
use Rattle.turn_lock.specs.Trail.{Adds}
use Rattle.lti_desk.specs.Crash.{IsFor, IsLeft}
use Rattle.lti_desk.specs.Lawful.{is_run_full, IsLawful, IsKeeping}
use Rattle.lti_desk.specs.Legal.{entry_at}
use Rattle.lti_desk.specs.Reading.{IsOver}
use Rattle.lti_desk.specs.Office.{OfficeValue}

-- the list before the call
abbrev pub list_of : {D : Type 0} → OfficeValue D → List Entry → List Entry
list_of office began = after_all began office.trail

-- one answer, where the history began over this list
pub record LeavesFrom {D : Type 0} (g : Ghosts D) (old new : OfficeValue D) (call : Call) (given : Reply) (began : List Entry) : Type 0 where
  -- at each moment of the call a crash leaves what it left before, or the list with the entry of this call; or no
  -- call of the disk was made
  pub moments : g.tells → (new.disk ≡ old.disk) ⊎ LeavesOnly g old.disk new.disk
      (λ image. IsLeft old.place.half old.origin.window began old.trail image
      ⊎ IsFor old.place.half (list_of old began ++ entry_at old.origin.window (list_of old began) call ∷ []) image)
  -- after an acceptance it leaves the list with the entry
  pub kept : g.tells → is_acceptance given ≡ true → (new.doubtful ≡ false)
      × ((image : List ℕ) → g.may_leave new.disk image → IsFor new.place.half (list_of new began) image)
  -- a fault is told with the count, which rose
  pub failed : (faults : ℕ) → given ≡ DiskFault faults → (faults ≡ g.faults new.disk) × Rose (g.faults old.disk) (g.faults new.disk)
  -- after any other reply no call of the disk was made
  pub untouched : is_acceptance given ≡ false → ((faults : ℕ) → given ≡ DiskFault faults → ⊥) → (new.disk ≡ old.disk) × (new.doubtful ≡ old.doubtful) × (new.place ≡ old.place)

-- one answer, over the entries in the pieces that were read
abbrev pub Leaves : {D : Type 0} → Ghosts D → OfficeValue D → OfficeValue D → Call → Reply → Type 0
Leaves g old new call given = IsOver old.origin (λ began. LeavesFrom g old new call given began)

-- One answer of an office: what it keeps, and what the history gains.
pub record Answers {D : Type 0} (g : Ghosts D) (old : OfficeValue D) (call : Call) (given : Reply) (new : OfficeValue D) : Type 0 where
  pub origin : new.origin ≡ old.origin
  pub limit : new.limit ≡ old.limit
  -- the call becomes the last member of the history, or is told that the run is full, where the history is as long as
  -- may be
  pub trail : Adds (is_run_full given) old.limit call given old.trail new.trail
  -- after an acceptance nothing is in doubt
  pub settled : is_acceptance given ≡ true → new.doubtful ≡ false
  -- each member of the history has its cause
  pub lawful : IsLawful new.origin new.trail
  -- what a crash leaves during the call, and what it leaves from then on
  pub leaves : Leaves g old new call given
  pub keeps : IsKeeping g new
