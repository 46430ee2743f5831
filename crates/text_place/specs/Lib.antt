pub mod Texts
pub mod Places
pub mod Past
