-- `table_instructions::write_assign` meets its contract.
use Rattle.table_instructions.proofs.Instructions as written
use Rattle.table_instructions.proofs.instruction.write_assign.Goals as goal

pub returns : goal.returns
returns c =
    let a = c.args in
    let p = c.requires in
    let word = c.word_field-name.ensures in
    let cells = c.write_cells-cells.ensures in
    let entry = c.put_entry.ensures in
    written.assign_written a.s.now a.t.now a.place a.stop a.to.entry a.to.cells p.0 _ word.0 _ _ cells _ entry p.4
