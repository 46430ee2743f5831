pub mod FreeBlock
pub mod ChildSteps
pub mod NewChild
pub mod ChildMade
pub mod Forking
pub mod Asked
