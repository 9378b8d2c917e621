pub mod Counts
pub mod Trail
pub mod Owned
pub mod Views
pub mod Rule
pub mod Steps
pub mod Passes
pub mod Resting
