pub mod Decimals
pub mod LineBytes
pub mod ListedWrites
pub mod Stores
