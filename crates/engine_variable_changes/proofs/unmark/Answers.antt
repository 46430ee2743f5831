-- `engine_variable_changes::unmark` meets its contract.
use borrow.Author.Rules.{rules}
use Rattle.engine_variable_changes.proofs.VariableBlocks.{unmark_changes}
use Rattle.engine_blocks.specs.Changes.{unmarked_block}
use Rattle.engine_variable_changes.proofs.unmark.Goals as goal

pub returns : goal.returns
unfolding unmarked_block
returns c =
    let a = c.args in
    unmark_changes a.s a.index (search rules) (search rules) c.put_word.ensures
