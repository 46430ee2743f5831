pub mod Owners
pub mod Chaining
pub mod Listing
pub mod Slots
