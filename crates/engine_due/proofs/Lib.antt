pub mod DueBlocks
pub mod Passing
pub mod Turns
pub mod PassedOver
pub mod Reached
pub mod ReachedBlocks
