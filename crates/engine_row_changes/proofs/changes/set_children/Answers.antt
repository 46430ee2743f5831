-- `engine_row_changes::changes::set_children` meets its contract.
use borrow.Author.Rules.{rules}
use Rattle.engine_blocks.proofs.RowChanges.{children_changes}
use Rattle.engine_row_changes.proofs.changes.set_children.Goals as goal

pub returns : goal.returns
returns c =
    let a = c.args in
    children_changes a.s a.count (search rules) c.put_word.ensures
