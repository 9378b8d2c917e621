pub mod Served
pub mod Doing
