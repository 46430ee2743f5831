pub mod Numbers
pub mod Reasons
pub mod Sentences
pub mod Spots
