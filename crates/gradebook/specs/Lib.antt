pub mod Book
pub mod Texts
pub mod Tables
pub mod Inside
pub mod Told
pub mod Laws
