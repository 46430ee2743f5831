pub mod Fields
pub mod Gather
