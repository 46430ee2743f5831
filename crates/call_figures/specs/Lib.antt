pub mod Figures
pub mod Answers
