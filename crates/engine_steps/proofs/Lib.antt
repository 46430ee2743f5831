pub mod Stores
pub mod Going
