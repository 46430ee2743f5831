pub mod Lists
pub mod Delays
pub mod Minutes
pub mod Weeks
