pub mod Book
pub mod Moment
