pub mod Whole
pub mod Edges
pub mod Changes
pub mod Walking
pub mod Agree
