pub mod NewSlots
pub mod Counted
pub mod Forked
