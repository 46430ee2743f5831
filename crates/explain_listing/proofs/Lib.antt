pub mod Judging
pub mod Sayings
