pub mod Answers
pub mod Conclusions
pub mod Failures
