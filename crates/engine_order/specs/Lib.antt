pub mod Listed
pub mod Placed
