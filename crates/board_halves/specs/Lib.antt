pub mod Boards
pub mod Examples
