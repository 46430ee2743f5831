pub mod Steps
pub mod Turning
