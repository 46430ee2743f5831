pub mod Numbers
pub mod Reasons
pub mod Said
