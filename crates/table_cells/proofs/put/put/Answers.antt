-- `table_cells::put` meets its contract.
use mathlib.Core.Path.{sym}
use lib.Seq.{set_out}
use Rattle.table_cells.proofs.put.put.Goals as goal

pub returns-else-a-t : goal.returns-else-a-t
returns-else-a-t c = sym (set_out _ _ _ c.if-a-t.false)
