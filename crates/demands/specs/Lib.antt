pub mod Exists
pub mod Pairs
