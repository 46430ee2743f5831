pub mod Fields
pub mod Dates
pub mod Windows
