pub mod Memories
pub mod Places
