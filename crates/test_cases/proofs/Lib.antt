pub mod Telling
pub mod Storing
pub mod Reading
pub mod Texts
