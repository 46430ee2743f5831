pub mod Figures
pub mod Loading
pub mod Runs
