pub mod Half
pub mod Doubt
pub mod Journal
pub mod Changes
pub mod Pieces
pub mod Position
pub mod Read
pub mod Writes
