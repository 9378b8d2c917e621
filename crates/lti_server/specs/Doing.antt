-- What a run did, by what its words ask (this project's own).
use Rattle.std.specs.Prelude.{◌≡◌, ◌⊎◌, ◌==◌, ◌||◌, ℕ, Bool, List, Option}
use Rattle.lti_outside.specs.DiskMoments.{LeavesOnly}
use Rattle.lti_outside.specs.declared.disk.Disk.{Ghosts}
use Rattle.lti_outside.specs.declared.limits.Limits.{Limits}
use Rattle.lti_machine.specs.History.{Member}
use Rattle.lti_desk.specs.Mounting.{IsMounted}
use Rattle.lti_desk.specs.Office.{OfficeValue}
use Rattle.lti_desk.specs.Serving.{Serves}
use Rattle.lti_words.specs.Command.{CommandValue, CheckCommand, IsCommand, IsUsage}
use Rattle.lti_words.specs.Command.CommandValue.{check, answer, issue, launch, passback, grades}
use Rattle.lti_words.specs.declared.status.Status.{Status}
use Rattle.lti_words.specs.declared.status.Status.TheVariants as ends
use Rattle.lti_settings.specs.declared.settings.Settings.{Settings}
use Rattle.lti_check.specs.Ending.{EndsWith}
use Rattle.lti_operator.specs.Ladder.{Passage, IsUntouched, LeavesDisk, IsStill, Ladder}
use Rattle.lti_operator.specs.Own.{OwnIssue, OwnLaunch, OwnPassback, OwnGrades}
use Rattle.lti_server.specs.Served.{OwnAnswer}

-- what each command that needs the journal does as its own, once its settings are read, its journal is mounted and its key is
-- known
abbrev pub Own : {D : Type 0} → Ghosts D → Limits → Option ℕ → CommandValue → Passage D → Option Settings → List ℕ → OfficeValue D → Status → Type 0
Own g limits clock (check command) p read secret office status = ⊥
Own g limits clock answer p read secret office status = OwnAnswer g limits clock p read office status
Own g limits clock (issue command) p read secret office status = OwnIssue g clock command p office status
Own g limits clock (launch command) p read secret office status = OwnLaunch clock command secret p office status
Own g limits clock (passback command) p read secret office status = OwnPassback limits clock command secret p office status
Own g limits clock (grades command) p read secret office status = OwnGrades command p office status

-- `check` reads no settings and leaves the disk: memory ran out before it began, or its lines were judged
pub record Checked {D : Type 0} (limits : Limits) (command : CheckCommand) (p : Passage D) (status : Status) : Type 0 where
  pub source : p.after.source ≡ p.before.source
  pub disk : LeavesDisk p
  pub judged : (IsUntouched p × (status ≡ ends.NoMemory)) ⊎ EndsWith command limits p.before.link p.after.link status

-- what a run did that was asked this command: it went up the ladder, and did at its end what is the command's own
abbrev pub Does : {D : Type 0} → Ghosts D → Limits → Option ℕ → CommandValue → Passage D → Status → Type 0
Does g limits clock (check command) p status = Checked limits command p status
Does g limits clock command p status = Ladder g limits command p (Own g limits clock command) status

-- What a run did: memory ran out before its words were read, they are no command, or it did what they ask.
pub data Ran {D : Type 0} (g : Ghosts D) (words : List (List ℕ)) (limits : Limits) (clock : Option ℕ) (p : Passage D) (status : Status) : Type 0 where
  no_memory : IsStill p → status ≡ ends.NoMemory → Ran g words limits clock p status
  usage : IsUsage words → IsStill p → status ≡ ends.Usage → Ran g words limits clock p status
  does : (command : CommandValue) → IsCommand words command → Does g limits clock command p status → Ran g words limits clock p status

-- the numbers of the ends that come before anything passed over the link
abbrev pub is_early : ℕ → Bool
is_early number = (number == 2) || (number == 3) || (number == 6) || (number == 7) || (number == 13) || (number == 17)

-- What a run made of the disk: it mounted no journal, and a crash at each moment leaves what it left before; or it mounted one,
-- and what it was asked since, one call behind another, is the history of its journal.
pub data Survives {D : Type 0} (g : Ghosts D) (limits : Limits) (before after : D) : Type 0 where
  unmounted : LeavesOnly g before after (g.may_leave before) → Survives g limits before after
  mounted : (office : OfficeValue D) → IsMounted g limits before office → (told : List Member) → (to : OfficeValue D) → Serves g office told to
      → after ≡ to.disk → Survives g limits before after
