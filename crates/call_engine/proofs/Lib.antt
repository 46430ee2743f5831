pub mod Ways
pub mod Accepted
