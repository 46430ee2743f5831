pub mod Lines
pub mod Onward
