pub mod Determined
pub mod Examples
pub mod Integers
pub mod Law
pub mod Words
