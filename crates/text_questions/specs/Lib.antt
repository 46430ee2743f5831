pub mod Opening
pub mod Outcome
