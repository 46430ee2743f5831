pub mod Passes
pub mod Beginnings
pub mod Reaching
