pub mod Changes
pub mod Whole
