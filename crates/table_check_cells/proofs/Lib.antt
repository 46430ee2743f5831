pub mod Words
pub mod Expressions
pub mod Cells
