pub mod Filling
pub mod Field
pub mod Row
