-- `engine_variable_changes::assign` meets its contract.
use Prim.Native.Nat.{◌+◌}
use borrow.Author.Rules.{rules}
use Rattle.engine_blocks.proofs.InBlocks.{in_block_put_then}
use Rattle.engine_variable_changes.proofs.VariableBlocks.{assign_changes}
use Rattle.engine_blocks.specs.Changes.{assigned_block}
use Rattle.engine_variable_changes.proofs.assign.Goals as goal

pub returns : goal.returns
unfolding assigned_block
returns c =
    let a = c.args in
    λ moment. assign_changes a.s a.index moment a.v (search rules) (search rules) (in_block_put_then (128 + a.index) 1 c.put_word.ensures c.put_word-2.ensures)
