pub mod Call
pub mod Span
pub mod Told
