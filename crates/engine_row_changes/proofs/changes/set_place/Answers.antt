-- `engine_row_changes::changes::set_place` meets its contract.
use borrow.Author.Rules.{rules}
use Rattle.engine_blocks.proofs.InBlocks.{in_block_put_then}
use Rattle.engine_blocks.proofs.RowChanges.{place_changes}
use Rattle.engine_blocks.specs.Changes.{placed_block}
use Rattle.engine_row_changes.proofs.changes.set_place.Goals as goal

pub returns : goal.returns
unfolding placed_block
returns c =
    let a = c.args in
    place_changes a.s a.place (search rules) (in_block_put_then 3 a.place c.put_word.ensures c.put_word-2.ensures)
