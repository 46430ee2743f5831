pub mod CellLoop
pub mod Entry
pub mod Fields
pub mod Stores
