pub mod Naming
pub mod Passing
