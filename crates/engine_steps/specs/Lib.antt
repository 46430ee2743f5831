pub mod Outcome
pub mod Asked
