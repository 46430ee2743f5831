pub mod Groups
pub mod ManyInputs
pub mod Scripts
