pub mod Verdicts
pub mod Said
