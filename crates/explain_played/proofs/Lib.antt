pub mod Steps
pub mod LastLine
pub mod Codes
