-- `engine_new_rows::rows::put_kept` meets its contract.
use Rattle.engine_blocks.proofs.InBlocks.{in_block_put_then}
use Rattle.engine_new_rows.specs.NewRow.{kept_block}
use Rattle.engine_new_rows.proofs.rows.put_kept.Goals as goal

pub returns : goal.returns
unfolding kept_block
returns c =
    let a = c.args in
    in_block_put_then 4 a.own (in_block_put_then 2 a.i (in_block_put_then 1 a.level c.put_word.ensures c.put_word-2.ensures) c.put_word-3.ensures) c.put_word-4.ensures
