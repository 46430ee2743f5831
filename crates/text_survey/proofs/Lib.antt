pub mod Surveying
pub mod TherePass
