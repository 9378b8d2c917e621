pub mod TextLemmas
pub mod RowLemmas
pub mod PlacedLemmas
pub mod BookLemmas
