pub mod Finished
pub mod Concluded
pub mod Earlier
pub mod Literals
