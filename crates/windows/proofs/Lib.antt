pub mod Answers
pub mod Bounds
pub mod Weeks
pub mod Told
