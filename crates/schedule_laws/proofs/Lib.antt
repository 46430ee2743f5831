pub mod Windows
pub mod Spans
pub mod Members
pub mod OnMinutes
pub mod Sentence
pub mod Places
pub mod Determine
