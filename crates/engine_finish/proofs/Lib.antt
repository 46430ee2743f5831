pub mod VariableWords
pub mod RestingBlocks
pub mod KeptRecords
pub mod EndedIsRead
pub mod PlaceTurns
pub mod Clearing
pub mod Composed
