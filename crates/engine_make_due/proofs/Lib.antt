pub mod MadeBlocks
