pub mod Marking
pub mod Union
