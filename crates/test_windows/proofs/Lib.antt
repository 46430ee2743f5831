pub mod Passing
pub mod Turning
