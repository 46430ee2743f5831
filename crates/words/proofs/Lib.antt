pub mod Congruent
pub mod Examples
pub mod Integers
pub mod Moments
pub mod Products
pub mod Signed
pub mod Wrapping
