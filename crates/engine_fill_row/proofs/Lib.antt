pub mod Asked
pub mod Fetching
pub mod Fields
pub mod WorkingRows
pub mod CleanFilled
pub mod ChildFilled
