pub mod Lines
pub mod Weeks
pub mod Answers
pub mod Reading
