pub mod Entries
pub mod Frame
pub mod Summaries
pub mod Words
