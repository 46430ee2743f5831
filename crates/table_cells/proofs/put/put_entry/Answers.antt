-- `table_cells::put_entry` meets its contract.
use Rattle.std.proofs.Common.{rules, ◌≡◌, ◌∙◌, ap, length, ℕ, List}
use lib.Seq.{sets}
use Rattle.table_cells.proofs.Entry as entry
use Rattle.table_cells.proofs.put.put_entry.Goals as goal

pub returns : goal.returns
returns c =
    let a = c.args in
    let long : length a.words ≡ 5 = search rules in
    entry.five_stores a.t.now _ _ _ _ _ a.e _ _ _ _ _ c.put.ensures c.put-2.ensures c.put-3.ensures c.put-4.ensures c.put-5.ensures
    ∙ ap (λ (ws : List ℕ). sets a.t.now a.e ws) (entry.five_words a.words long)
