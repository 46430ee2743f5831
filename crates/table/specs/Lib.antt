pub mod Areas
pub mod Decode
pub mod Question6
pub mod Entry
pub mod Bounds
pub mod Unused
