pub mod Growing
pub mod Writing
