pub mod Falling
pub mod Distinct
pub mod SameLows
