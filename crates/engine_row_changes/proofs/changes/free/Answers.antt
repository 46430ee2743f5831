-- `engine_row_changes::changes::free` meets its contract.
use borrow.Author.Rules.{rules}
use Rattle.engine_blocks.proofs.RowChanges.{free_changes}
use Rattle.engine_row_changes.proofs.changes.free.Goals as goal

pub returns : goal.returns
returns c =
    let a = c.args in
    free_changes a.s (search rules) c.clear_words.ensures
