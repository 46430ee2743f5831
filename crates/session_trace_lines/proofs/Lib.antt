pub mod Bounds
pub mod Fields
pub mod Lines
