pub mod Loading
pub mod Turning
pub mod Casing
