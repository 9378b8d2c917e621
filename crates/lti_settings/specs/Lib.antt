pub mod Settings
pub mod SettingsRead
pub mod SettingsView
