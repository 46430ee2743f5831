-- `engine_variable_changes::schedule` meets its contract.
use Prim.Native.Nat.{◌+◌, ◌*◌, ◌/◌, ◌%◌}
use borrow.Author.Rules.{rules}
use Rattle.engine_blocks.proofs.InBlocks.{in_block_put_then}
use Rattle.engine_variable_changes.proofs.VariableBlocks.{schedule_changes}
use Rattle.engine_blocks.specs.Changes.{scheduled_block}
use Rattle.engine_variable_changes.proofs.schedule.Goals as goal

pub returns : goal.returns
unfolding scheduled_block
returns c =
    let a = c.args in
    schedule_changes a.s a.index a.moment.0 a.v (search rules) (search rules) (search rules)
    (in_block_put_then (11 + a.index * 6) (a.moment.0 / 4294967296) (in_block_put_then (10 + a.index * 6) (a.moment.0 % 4294967296) c.put_word.ensures c.put_word-2.ensures) c.put_word-3.ensures)
