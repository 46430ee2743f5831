pub mod Tallies
pub mod Faults
