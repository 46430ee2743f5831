pub mod Saying
pub mod Days
