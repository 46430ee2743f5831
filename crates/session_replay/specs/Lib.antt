pub mod Standing
pub mod After
pub mod Phases
pub mod Advancing
pub mod Ending
