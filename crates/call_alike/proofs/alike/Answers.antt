-- `call_alike::alike` meets its contract.
use native.Mathlib.Omega.{arith}
use mathlib.Core.Path.{sym, ◌∙◌}
use Rattle.call_alike.specs.Compared.{compared_of}
use Rattle.call_alike.proofs.Comparing.{short_table, short_first, short_second, no_table, on_table}
use Rattle.call_alike.proofs.alike.Goals as goal

pub returns-then-table-lt-TABLE_WORDS : goal.returns-then-table-lt-TABLE_WORDS
unfolding compared_of
returns-then-table-lt-TABLE_WORDS c =
    let a = c.args in
    short_table a.table.now a.a.now a.b.now (omega arith)

pub returns-then-a-lt-MACHINE_WORDS : goal.returns-then-a-lt-MACHINE_WORDS
unfolding compared_of
returns-then-a-lt-MACHINE_WORDS c =
    let a = c.args in
    short_first a.table.now a.a.now a.b.now (omega arith) (omega arith)

pub returns-then-b-lt-MACHINE_WORDS : goal.returns-then-b-lt-MACHINE_WORDS
unfolding compared_of
returns-then-b-lt-MACHINE_WORDS c =
    let a = c.args in
    short_second a.table.now a.a.now a.b.now (omega arith) (omega arith) (omega arith)

pub returns-then-not-is_table : goal.returns-then-not-is_table
unfolding compared_of
returns-then-not-is_table c =
    let a = c.args in
    no_table a.table.now a.a.now a.b.now (omega arith) (omega arith) (omega arith) (sym c.is_table.ensures ∙ c.if-not-is_table.true)

pub compare-requires : goal.compare-requires
compare-requires c = (omega arith, omega arith, omega arith, sym c.is_table.ensures ∙ c.if-not-is_table.false)

pub returns : goal.returns
unfolding compared_of
returns c =
    let a = c.args in
    c.compare.ensures ∙ on_table a.table.now a.a.now a.b.now (omega arith) (omega arith) (omega arith) (sym c.is_table.ensures ∙ c.if-not-is_table.false)
