pub mod Tabulated
pub mod Puts
pub mod InBlocks
pub mod RowChanges
pub mod Staying
pub mod Queued
pub mod Filled
