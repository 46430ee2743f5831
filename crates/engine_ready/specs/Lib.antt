pub mod Slots
pub mod Ordered
