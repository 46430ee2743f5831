pub mod Asking
pub mod Comparing
