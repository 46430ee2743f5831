pub mod Gather
pub mod Letters
pub mod Numbers
pub mod OnField
pub mod Rows
