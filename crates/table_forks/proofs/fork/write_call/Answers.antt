-- `table_forks::write_call` meets its contract.
use mathlib.Core.Path.{◌∙◌}
use native.Mathlib.Omega.{arith}
use Rattle.table_forks.proofs.fork.write_call.Goals as goal

pub write_cells-cells-requires : goal.write_cells-cells-requires
write_cells-cells-requires c = c.requires

pub overflow_sub-cells : goal.overflow_sub-cells
overflow_sub-cells c = omega (arith, c.write_cells-cells.ensures.some_cell)

pub overflow_cast-cells : goal.overflow_cast-cells
overflow_cast-cells c = omega (arith, c.write_cells-cells.ensures.few, c.requires.1)

pub returns : goal.returns
returns c =
    let w = c.write_cells-cells.ensures in
    record { answer = w.answer; written = c.put.ensures ∙ rw w.written; few = w.few; within = w.within }
