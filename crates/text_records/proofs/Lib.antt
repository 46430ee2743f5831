pub mod Letters
pub mod Lines
pub mod Waits
