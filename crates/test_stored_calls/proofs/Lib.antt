pub mod Reporting
pub mod Making
