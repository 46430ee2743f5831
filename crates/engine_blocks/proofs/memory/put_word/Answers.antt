-- `engine_blocks::memory::put_word` meets its contract.
use borrow.Author.Rules.{rules}
use Rattle.engine_blocks.proofs.InBlocks.{in_block_put}
use Rattle.engine_blocks.proofs.memory.put_word.Goals as goal

pub returns : goal.returns
returns c = let a = c.args in in_block_put a.m.now a.s a.offset a.v (search rules) (search rules)
