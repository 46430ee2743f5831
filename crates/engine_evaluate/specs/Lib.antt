pub mod Bound
pub mod Evaluable
