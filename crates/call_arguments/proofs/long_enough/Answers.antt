-- `call_arguments::long_enough` meets its contract.
use native.Mathlib.Omega.{arith}
use Rattle.call_arguments.proofs.Asking.{short_table, short_machine, short_numbers, all_but_values}
use Rattle.call_arguments.proofs.long_enough.Goals as goal

pub returns-then-table-lt-TABLE_WORDS : goal.returns-then-table-lt-TABLE_WORDS
returns-then-table-lt-TABLE_WORDS c = let a = c.args in short_table a.table a.machine a.numbers a.values (omega arith)

pub returns-then-machine-lt-MACHINE_WORDS : goal.returns-then-machine-lt-MACHINE_WORDS
returns-then-machine-lt-MACHINE_WORDS c = let a = c.args in short_machine a.table a.machine a.numbers a.values (omega arith) (omega arith)

pub returns-then-numbers-lt-OUTPUT_PLACES : goal.returns-then-numbers-lt-OUTPUT_PLACES
returns-then-numbers-lt-OUTPUT_PLACES c = let a = c.args in short_numbers a.table a.machine a.numbers a.values (omega arith) (omega arith) (omega arith)

pub returns : goal.returns
returns c = let a = c.args in all_but_values a.table a.machine a.numbers a.values (omega arith) (omega arith) (omega arith)
