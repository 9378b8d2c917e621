pub mod Checked
pub mod CheckerView
pub mod Lines
pub mod Verdicts
pub mod Noting
pub mod SoFar
pub mod Ending
pub mod Stops
