pub mod Days
pub mod Reasons
