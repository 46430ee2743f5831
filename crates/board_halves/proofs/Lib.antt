pub mod Told
pub mod Demand3
pub mod Seen
pub mod Examples
