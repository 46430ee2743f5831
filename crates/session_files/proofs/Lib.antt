pub mod Room
pub mod Turning
