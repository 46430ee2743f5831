pub mod NewChild
pub mod Fork
