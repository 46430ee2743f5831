pub mod VariableChanges
pub mod Readings
