pub mod Exact
pub mod Sessions
