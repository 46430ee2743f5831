pub mod MainNames
pub mod MainRows
