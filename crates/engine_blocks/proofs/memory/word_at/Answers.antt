-- `engine_blocks::memory::word_at` meets its contract.
use mathlib.Core.Path.{sym}
use borrow.Author.Rules.{rules}
use Rattle.engine_blocks.proofs.InBlocks.{block_word}
use Rattle.engine_blocks.proofs.memory.word_at.Goals as goal

pub returns : goal.returns
returns c = let a = c.args in sym (block_word a.m.now a.s a.offset (search rules))
