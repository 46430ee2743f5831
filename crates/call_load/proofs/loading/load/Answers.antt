-- `call_load::load` meets its contract.
use mathlib.Core.Path.{sym, ap, ◌∙◌}
use lib.Seq.{length-take-le}
use Rattle.text_questions.specs.Outcome.{outcome_of}
use Rattle.call_load.proofs.Promised as promised
use borrow.Author.Rules.{rules}
use Rattle.call_load.proofs.loading.load.Goals as goal

pub slice_bounds-write_table-end : goal.slice_bounds-write_table-end
slice_bounds-write_table-end c =
    let a = c.args in
    promised.long a.listing.now a.table.now (ap (outcome_of a.listing.now) (sym c.in-Done.is) ∙ c.put_questions-answer.ensures)

pub slice_bounds-write_table-end-in-Done : goal.slice_bounds-write_table-end-in-Done
slice_bounds-write_table-end-in-Done c =
    let a = c.args in
    sym (length-take-le 12288 a.table.now (promised.long a.listing.now a.table.now (ap (outcome_of a.listing.now) (sym c.in-Done.is) ∙ c.put_questions-answer.ensures)))

pub write_table-requires : goal.write_table-requires
write_table-requires c =
    let a = c.args in
    let e = ap (outcome_of a.listing.now) (sym c.in-Done.is) ∙ c.put_questions-answer.ensures in
    (promised.loads a.listing.now a.table.now e, length-take-le 12288 a.table.now (promised.long a.listing.now a.table.now e))

pub returns-in-Refused : goal.returns-in-Refused
returns-in-Refused c =
    let a = c.args in
    promised.kept a.listing.now a.table.now _ _ (ap (outcome_of a.listing.now) (sym c.in-Refused.is) ∙ c.put_questions-answer.ensures)

pub returns-in-Done : goal.returns-in-Done
returns-in-Done c =
    let a = c.args in
    let e = ap (outcome_of a.listing.now) (sym c.in-Done.is) ∙ c.put_questions-answer.ensures in
    promised.filled a.listing.now a.table.now e _ c.write_table.ensures (search rules)
