mod FieldLemmas
pub mod LaunchLemmas
