pub mod Conditions
pub mod Opening
pub mod RoutinePass
pub mod Areas
pub mod Whole
