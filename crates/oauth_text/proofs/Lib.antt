pub mod EscapeLemmas
pub mod FormTexts
pub mod HostLemmas
pub mod PlaceLemmas
pub mod TargetLemmas
pub mod NormalLemmas
pub mod OrderLemmas
pub mod TrimLemmas
