pub mod Lists
pub mod Naming
pub mod OwnNames
pub mod CallerNames
pub mod Passing
