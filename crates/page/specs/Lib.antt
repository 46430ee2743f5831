pub mod Pages
pub mod Call
pub mod Together
