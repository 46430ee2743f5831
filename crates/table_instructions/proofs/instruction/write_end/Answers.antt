-- `table_instructions::write_end` meets its contract.
use Rattle.table_instructions.proofs.Instructions as written
use Rattle.table_instructions.proofs.instruction.write_end.Goals as goal

pub returns : goal.returns
returns c =
    let a = c.args in
    let p = c.requires in
    let entry = c.put_entry.ensures in
    written.end_written a.s.now a.t.now a.place a.stop a.to.entry a.to.cells _ entry p.4
