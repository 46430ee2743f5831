pub mod Asked
pub mod Refusals
