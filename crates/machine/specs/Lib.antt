pub mod Records
pub mod Words
pub mod ReadMachine
pub mod Layout
pub mod Limits
pub mod Due
pub mod Question7
