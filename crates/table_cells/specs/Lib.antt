pub mod Cells
pub mod Words
