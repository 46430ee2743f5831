pub mod Arounds
pub mod Pointing
