pub mod Writes
pub mod Openings
pub mod Order
pub mod Questions
pub mod InOrder
pub mod Verdicts
