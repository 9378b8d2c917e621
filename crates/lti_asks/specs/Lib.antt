pub mod Launches
pub mod Outcomes
