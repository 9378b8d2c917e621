pub mod DigitSums
pub mod FractionLemmas
pub mod WrittenLemmas
pub mod PrintedLemmas
pub mod WritingLemmas
