-- `engine_row::row::low` meets its contract.
use mathlib.Core.Path.{sym, ap, ◌∙◌}
use borrow.Author.Rules.{rules}
use Rattle.engine_rows.specs.Rows.{Row}
use Rattle.engine_blocks.proofs.RowChanges.{row_of}
use Rattle.engine_blocks.specs.Blocks.{row_at}
use Rattle.engine_row.proofs.row.low.Goals as goal

pub returns : goal.returns
unfolding row_at
returns c =
    let a = c.args in
    c.word_at.ensures ∙ ap (λ (r : Row). r.low) (sym (row_of a.m.now a.s (search rules)))
