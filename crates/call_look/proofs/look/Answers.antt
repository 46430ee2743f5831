-- `look` meets its contract.
use native.Mathlib.Omega.{arith}
use mathlib.Core.Path.{sym, ap, ◌∙◌}
use Rattle.call_look.specs.Figures.{figures_of}
use Rattle.call_look.proofs.Looking.{short_table, short_machine, no_table, on_table}
use Rattle.call_look.proofs.look.Goals as goal

pub returns-then-table-lt-TABLE_WORDS : goal.returns-then-table-lt-TABLE_WORDS
returns-then-table-lt-TABLE_WORDS c =
    let a = c.args in
    c.refused.ensures ∙ ap figures_of (short_table a.table.now a.machine.now (omega arith))

pub returns-then-machine-lt-MACHINE_WORDS : goal.returns-then-machine-lt-MACHINE_WORDS
returns-then-machine-lt-MACHINE_WORDS c =
    let a = c.args in
    c.refused-then-machine-lt-MACHINE_WORDS.ensures ∙ ap figures_of (short_machine a.table.now a.machine.now (omega arith) (omega arith))

pub returns-then-not-is_table : goal.returns-then-not-is_table
returns-then-not-is_table c =
    let a = c.args in
    let no = sym c.is_table.ensures ∙ c.if-not-is_table.true in
    c.refused-then-not-is_table.ensures ∙ ap figures_of (no_table a.table.now a.machine.now (omega arith) (omega arith) no)

pub look_at-requires : goal.look_at-requires
look_at-requires c = (omega arith, omega arith, sym c.is_table.ensures ∙ c.if-not-is_table.false)

pub returns : goal.returns
returns c =
    let a = c.args in
    let yes = sym c.is_table.ensures ∙ c.if-not-is_table.false in
    c.look_at.ensures ∙ ap figures_of (on_table a.table.now a.machine.now (omega arith) (omega arith) yes)
