-- The settings that were read.
use Rattle.lti_settings.specs.Settings.{SettingsParts}
use Rattle.lti_settings.specs.declared.settings.Settings.{Settings}

abbrev pub settings_parts : Settings → SettingsParts
settings_parts settings = record { scheme = settings.scheme; keys = settings.keys }
