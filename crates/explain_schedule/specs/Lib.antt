pub mod Ranges
pub mod Lines
pub mod Faults
