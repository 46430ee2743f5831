pub mod Places
pub mod Reasons
pub mod Asked
pub mod Numbers
