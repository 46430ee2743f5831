-- `table_cells::word_field` meets its contract.
use mathlib.Core.Path.{sym, ap, ◌∙◌}
use Rattle.table_cells.specs.Words.{as_word}
use Rattle.table_cells.proofs.Fields as fields
use Rattle.table_cells.proofs.word.word_field.Goals as goal

pub returns-in_default : goal.returns-in_default
returns-in_default c =
    let a = c.args in
    let e = ap (as_word a.place) (sym c.in_default.is ∙ c.number_field.ensures) in
    (e, fields.word_next a.s.now a.place a.stop c.requires _ e)

pub returns : goal.returns
returns c =
    let a = c.args in
    let g = sym c.in-Read.is ∙ c.number_field.ensures in
    let e = fields.word_read a.s.now a.place a.stop _ _ _ _ g c.low_word.ensures in
    (e, fields.word_next a.s.now a.place a.stop c.requires _ e)
