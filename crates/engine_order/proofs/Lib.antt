pub mod Ordering
pub mod OrderTurns
pub mod DueSlots
