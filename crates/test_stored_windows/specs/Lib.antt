pub mod Cases
pub mod Lists
