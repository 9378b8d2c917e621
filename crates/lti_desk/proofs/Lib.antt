pub mod HeldLemmas
pub mod KeepLemmas
pub mod KeeperLemmas
pub mod MountLemmas
pub mod OfficeLemmas
pub mod ToldLemmas
pub mod ServeLemmas
