pub mod Chains
pub mod Awaited
