pub mod Division
pub mod Presses
pub mod Stops
pub mod Causes
pub mod TraceText
pub mod LiveCount
pub mod Wakings
