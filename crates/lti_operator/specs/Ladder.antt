-- What a run did before the command's own work, and that it came to it: the rungs of one ladder, in order (this project's own).
use Rattle.std.specs.Prelude.{◌≡◌, ℕ, Bool, true, false, List, [], Option, None, Some, Ok, Err}
use Rattle.lti_outside.specs.Traffic.{Traffic}
use Rattle.lti_outside.specs.declared.disk.Disk.{Ghosts}
use Rattle.lti_outside.specs.declared.limits.Limits.{Limits}
use Rattle.gate_journal.specs.declared.mount_fault.MountFault.{MountFault}
use Rattle.gate_journal.specs.declared.mount_fault.MountFault.TheVariants as fault
use Rattle.oauth_request.specs.Secret.{secret_in}
use Rattle.lti_desk.specs.Mounting.{IsMounted, IsUnmounted}
use Rattle.lti_desk.specs.Office.{OfficeValue}
use Rattle.lti_words.specs.Command.{CommandValue, uses_settings, uses_journal, key_of}
use Rattle.lti_words.specs.declared.status.Status.{Status}
use Rattle.lti_words.specs.declared.status.Status.TheVariants as ends
use Rattle.lti_settings.specs.SettingsRead.{ReadsSettings, status_of}
use Rattle.lti_settings.specs.declared.settings.Settings.{Settings}
use Rattle.lti_settings.specs.declared.settings_source.NoSettings.{NoSettings}

-- the ends of a run: the source of the settings and the link, the random words to come, where they are told, and the disk
pub record Ends (D : Type 0) : Type 0 where
  pub source : Traffic
  pub link : Traffic
  pub random : Option (List ℕ)
  pub disk : D

-- what passed in a run: its ends before and after it
pub record Passage (D : Type 0) : Type 0 where
  pub before : Ends D
  pub after : Ends D

-- nothing passed over the link
abbrev pub IsUntouched : {D : Type 0} → Passage D → Type 0
IsUntouched p = p.after.link ≡ p.before.link

-- the disk was handed back as it was handed in
abbrev pub LeavesDisk : {D : Type 0} → Passage D → Type 0
LeavesDisk p = p.after.disk ≡ p.before.disk

-- no end was touched
pub record IsStill {D : Type 0} (p : Passage D) : Type 0 where
  pub source : p.after.source ≡ p.before.source
  pub link : IsUntouched p
  pub disk : LeavesDisk p

-- the settings that a command is done by: those that the source gave, or none where it needs none
abbrev pub Reads : {D : Type 0} → Bool → Passage D → Option Settings → Type 0
Reads false p read = (p.after.source ≡ p.before.source) × (read ≡ None)
Reads true p None = ⊥
Reads true p (Some settings) = ReadsSettings p.before.source p.after.source (Ok settings)

-- the secret of the command's key among them; an empty text where it has no key
abbrev pub Knows : Option (List ℕ) → Option Settings → List ℕ → Type 0
Knows None read secret = secret ≡ []
Knows (Some key) None secret = ⊥
Knows (Some key) (Some settings) secret = secret_in settings.keys key ≡ Some secret

-- the command's key isn't among them
abbrev pub IsUnknown : Option (List ℕ) → Option Settings → Type 0
IsUnknown (Some key) (Some settings) = secret_in settings.keys key ≡ None
IsUnknown _ _ = ⊥

-- how a run ends whose journal can't be mounted
abbrev pub mount_status : MountFault → Status
mount_status (fault.TooSmall size) = ends.JournalTooSmall
mount_status fault.DiskFault = ends.DiskFault
mount_status (fault.Damaged at) = ends.DamagedJournal
mount_status fault.NoMemory = ends.NoMemory

-- What a run did that was asked this command over a journal, and how it ended: memory ran out before anything was read; its
-- settings had no reading; its journal couldn't be mounted; its key isn't known; or the command did its own work, by these
-- settings, with the key's secret, and over the office that was mounted.
pub data Ladder {D : Type 0} (g : Ghosts D) (limits : Limits) (command : CommandValue) (p : Passage D)
    (Own : Passage D → Option Settings → List ℕ → OfficeValue D → Status → Type 0) (status : Status) : Type 0 where
  no_memory : IsStill p → status ≡ ends.NoMemory → Ladder g limits command p Own status
  no_settings : uses_settings command ≡ true → (cause : NoSettings) → ReadsSettings p.before.source p.after.source (Err cause) → IsUntouched p → LeavesDisk p
      → status ≡ status_of cause → Ladder g limits command p Own status
  no_journal : (read : Option Settings) → Reads (uses_settings command) p read → (cause : MountFault)
      → IsUnmounted g limits p.before.disk record { fault = cause; disk = p.after.disk } → IsUntouched p → status ≡ mount_status cause → Ladder g limits command p Own status
  no_key : (read : Option Settings) → Reads (uses_settings command) p read → (office : OfficeValue D) → IsMounted g limits p.before.disk office
      → IsUnknown (key_of command) read → IsUntouched p → p.after.disk ≡ office.disk → status ≡ ends.UnknownKey → Ladder g limits command p Own status
  own : (read : Option Settings) → Reads (uses_settings command) p read → (office : OfficeValue D) → IsMounted g limits p.before.disk office
      → (secret : List ℕ) → Knows (key_of command) read secret → Own p read secret office status → Ladder g limits command p Own status
