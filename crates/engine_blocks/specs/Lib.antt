pub mod Tabulate
pub mod Blocks
pub mod Store
pub mod Changes
