-- `engine_make_due::make` meets its contract.
use Rattle.engine_blocks.specs.Changes.{made_block}
use Rattle.engine_make_due.proofs.make.Goals as goal

pub returns : goal.returns
unfolding made_block
returns c = rw c.word_at-waiting.ensures at (c.overwrite.ensures 0).in_block
