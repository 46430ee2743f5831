pub mod TableSize
pub mod Refusals
pub mod Asking
