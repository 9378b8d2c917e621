pub mod BoolLemmas
pub mod DigitLemmas
pub mod PieceLemmas
pub mod TrafficLemmas
pub mod DiskMomentLemmas
pub mod DiskCallLemmas
