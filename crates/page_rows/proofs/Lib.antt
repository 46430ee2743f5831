pub mod Stores
pub mod Columns
pub mod RowBytes
pub mod Examples
