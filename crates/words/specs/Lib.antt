pub mod Words
pub mod Moments
