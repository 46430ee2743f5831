-- `engine_make_due::overwrite` meets its contract.
use Prim.Native.Nat.{◌+◌, ◌*◌}
use borrow.Author.Rules.{rules}
use Rattle.engine_blocks.proofs.InBlocks.{in_block_put_then}
use Rattle.engine_make_due.proofs.MadeBlocks.{overwrite_changes}
use Rattle.engine_blocks.specs.Changes.{overwritten_block}
use Rattle.engine_make_due.proofs.overwrite.Goals as goal

pub returns : goal.returns
unfolding overwritten_block
returns c =
    let a = c.args in
    let i = a.index in
    λ moment. overwrite_changes a.s i moment a.v (search rules) (search rules)
    (in_block_put_then (128 + i) 1 (in_block_put_then (11 + i * 6) 0 (in_block_put_then (10 + i * 6) 0 (in_block_put_then (9 + i * 6) 0
    c.put_word.ensures c.put_word-2.ensures) c.put_word-3.ensures) c.put_word-4.ensures) c.put_word-5.ensures)
