pub mod Chain
pub mod Forks
pub mod Summaries
