pub mod InputPass
pub mod InputNumbers
