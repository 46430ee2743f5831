pub mod Calendar
pub mod Schedule
pub mod Form
pub mod Text
pub mod Union
pub mod Edges
pub mod Sentence
pub mod Members
