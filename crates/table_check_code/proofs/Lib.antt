pub mod Entries
pub mod Instructions
