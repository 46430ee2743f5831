-- `table_instructions::write_schedule` meets its contract.
use native.Mathlib.Omega.{arith}
use Rattle.table_instructions.proofs.Instructions as written
use Rattle.table_instructions.proofs.instruction.write_schedule.Goals as goal

pub overflow_cast-delay_cells : goal.overflow_cast-delay_cells
overflow_cast-delay_cells c = omega (arith, c.write_cells-delay_cells.ensures.few, c.requires.1)

pub overflow_cast-value_cells : goal.overflow_cast-value_cells
overflow_cast-value_cells c = omega (arith, c.write_cells-value_cells.ensures.few, c.requires.1)

pub put_entry-requires : goal.put_entry-requires
put_entry-requires c = c.requires.2

pub overflow_mul-result : goal.overflow_mul-result
overflow_mul-result c = omega (arith, c.write_cells-delay_cells.ensures.few, c.requires.1)

pub overflow_mul-result-2 : goal.overflow_mul-result-2
overflow_mul-result-2 c = omega (arith, c.write_cells-value_cells.ensures.few, c.requires.1)

pub overflow_add-result : goal.overflow_add-result
overflow_add-result c =
    let p = c.requires in
    omega (arith, c.write_cells-delay_cells.ensures.few, c.write_cells-value_cells.ensures.few, p.1)

pub returns : goal.returns
returns c =
    let a = c.args in
    let p = c.requires in
    let word = c.word_field-name.ensures in
    let cells = c.write_cells-delay_cells.ensures in
    let others = c.write_cells-value_cells.ensures in
    let entry = c.put_entry.ensures in
    written.schedule_written a.s.now a.t.now a.place a.stop a.to.entry a.to.cells p.0 _ word.0 _ _ cells _ _ others _ entry p.4
