pub mod Session
pub mod Board
pub mod Causes
pub mod Words
pub mod Exists
