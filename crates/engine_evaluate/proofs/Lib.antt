pub mod Names
pub mod Pieces
pub mod Turns
pub mod Short
pub mod Bound
pub mod Standing
