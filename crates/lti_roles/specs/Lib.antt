pub mod Names
pub mod Tables
pub mod Elements
pub mod Roles
pub mod Laws
