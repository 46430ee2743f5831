pub mod Writing
pub mod Changing
