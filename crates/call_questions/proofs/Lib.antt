pub mod Calling
pub mod Runs
