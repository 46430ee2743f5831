-- `engine_finish::working::clear_block` meets its contract.
use Rattle.engine_blocks.proofs.InBlocks.{in_block_put_then}
use Rattle.engine_finish.specs.Ended.{idle_block}
use Rattle.engine_finish.proofs.working.clear_block.Goals as goal

pub returns : goal.returns
unfolding idle_block
returns c = in_block_put_then 7 0 c.clear_words.ensures c.put_word.ensures
