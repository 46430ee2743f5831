pub mod Telling
pub mod Numbered
