-- Why a command isn't begun that needs the settings and the journal (this project's own).
use Rattle.std.specs.Prelude.{◌≡◌, Ok, Err}
use Rattle.lti_outside.specs.Traffic.{Traffic}
use Rattle.lti_outside.specs.declared.disk.Disk.{Ghosts}
use Rattle.lti_outside.specs.declared.limits.Limits.{Limits}
use Rattle.gate_journal.specs.declared.mount_fault.MountFault.{MountFault}
use Rattle.lti_desk.specs.Mounting.{IsUnmounted}
use Rattle.lti_words.specs.declared.status.Status.{Status}
use Rattle.lti_settings.specs.SettingsRead.{ReadsSettings, status_of}
use Rattle.lti_settings.specs.declared.settings.Settings.{Settings}
use Rattle.lti_settings.specs.declared.settings_source.NoSettings.{NoSettings}
use Rattle.lti_operator.specs.Ladder.{mount_status}

-- the journal of the disk couldn't be mounted
pub record Unmounts {D : Type 0} (g : Ghosts D) (limits : Limits) (before after : D) (status : Status) : Type 0 where
  pub fault : MountFault
  pub unmounted : IsUnmounted g limits before record { fault = fault; disk = after }
  pub status_is : status ≡ mount_status fault

-- The settings have no reading, and the disk is as it was; or they have one, and the journal couldn't be mounted.
pub data Unopens {D : Type 0} (g : Ghosts D) (limits : Limits) (source source' : Traffic) (before after : D) (status : Status) : Type 0 where
  no_settings : (cause : NoSettings) → ReadsSettings source source' (Err cause) → after ≡ before → status ≡ status_of cause → Unopens g limits source source' before after status
  no_journal : (settings : Settings) → ReadsSettings source source' (Ok settings) → Unmounts g limits before after status → Unopens g limits source source' before after status
