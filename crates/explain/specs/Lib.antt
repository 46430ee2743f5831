pub mod Traced
pub mod Arguments
