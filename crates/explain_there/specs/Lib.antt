pub mod Arounds
pub mod There
