pub mod NoteLemmas
pub mod FeedLemmas
pub mod LineLemmas
pub mod SoFarLemmas
pub mod TurnLemmas
