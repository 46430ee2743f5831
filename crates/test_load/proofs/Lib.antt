pub mod Passing
pub mod Right
pub mod Turning
