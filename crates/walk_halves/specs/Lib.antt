pub mod Halves
pub mod Examples
