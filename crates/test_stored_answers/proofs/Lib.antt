pub mod Pairing
pub mod Answering
