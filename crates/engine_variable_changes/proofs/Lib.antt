pub mod VariableBlocks
