pub mod FreeSlot
pub mod Priorities
