pub mod Fields
pub mod Parameters
pub mod Faults
pub mod Launch
pub mod Found
pub mod Roles
pub mod CustomName
pub mod Laws
