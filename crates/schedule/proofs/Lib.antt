pub mod EdgeCases
pub mod Examples
