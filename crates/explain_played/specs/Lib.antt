pub mod Spots
pub mod Endings
