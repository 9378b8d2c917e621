-- What reading the settings from a source took, by how it ended (this project's own).
use Rattle.std.specs.Prelude.{◌<◌, ◌≤◌, ◌⊎◌, ℕ, List, [], length, Result, Ok, Err}
use Rattle.lti_outside.specs.Traffic.{Traffic, Moves, no_fault, read_fault, IsAtEnd}
use Rattle.lti_settings.specs.Settings.{SettingsParts, IsSettings}
use Rattle.lti_settings.specs.SettingsView.{settings_parts}
use Rattle.lti_settings.specs.declared.settings.Settings.{Settings}
use Rattle.lti_settings.specs.declared.settings_source.NoSettings.{NoSettings}
use Rattle.lti_settings.specs.declared.settings_source.NoSettings.TheVariants.{NoReading, ReadFault, NoMemory}
use Rattle.lti_words.specs.declared.status.Status.{Status}
use Rattle.lti_words.specs.declared.status.Status.TheVariants as status

-- how many bytes settings have at most
abbrev pub most_settings : ℕ
most_settings = 1048576

-- more was read than settings have, and nothing was written
abbrev pub ReadsTooMuch : Traffic → Traffic → Type 0
ReadsTooMuch before after = (read : List ℕ) × Moves before after read [] no_fault × (most_settings < length read)

-- These are all bytes that were left; or more were than settings have; or a read failed; or memory ran out.
abbrev pub TakesAll : Traffic → Traffic → List ℕ → Result Unit NoSettings → Type 0
TakesAll before after held (Ok _) = Moves before after held [] no_fault × IsAtEnd after × (length held ≤ most_settings)
TakesAll before after held (Err NoReading) = ReadsTooMuch before after
TakesAll before after held (Err ReadFault) = (read : List ℕ) × Moves before after read [] read_fault
TakesAll before after held (Err NoMemory) = (read : List ℕ) × Moves before after read [] no_fault

-- Bytes with a reading were read to the end; or too many were, or all of them and they have no reading; or a read failed;
-- or memory ran out. Nothing was written.
abbrev pub ReadsSettings : Traffic → Traffic → Result Settings NoSettings → Type 0
ReadsSettings before after (Ok settings) =
    (read : List ℕ) × Moves before after read [] no_fault × IsAtEnd after × (length read ≤ most_settings) × IsSettings read (settings_parts settings)
ReadsSettings before after (Err NoReading) =
    ReadsTooMuch before after
    ⊎ ((read : List ℕ) × Moves before after read [] no_fault × IsAtEnd after × ((parts : SettingsParts) → IsSettings read parts → ⊥))
ReadsSettings before after (Err ReadFault) = (read : List ℕ) × Moves before after read [] read_fault
ReadsSettings before after (Err NoMemory) = (read : List ℕ) × Moves before after read [] no_fault

-- how a run ends that has no settings
abbrev pub status_of : NoSettings → Status
status_of NoReading = status.Settings
status_of ReadFault = status.ReadFault
status_of NoMemory = status.NoMemory
