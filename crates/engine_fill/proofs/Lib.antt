pub mod Passes
pub mod PassSteps
