pub mod Saying
pub mod Numbered
pub mod ByNumber
