pub mod Lines
pub mod Numbers
pub mod Complete
pub mod Whole
