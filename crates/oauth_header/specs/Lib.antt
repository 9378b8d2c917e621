pub mod Item
pub mod Items
pub mod Header
pub mod Faults
pub mod Written
pub mod Pieces
