-- `table_cells::write_cell` meets its contract.
use mathlib.Core.Path.{◌∙◌}
use Rattle.table_cells.proofs.cell.write_cell.Goals as goal

pub returns : goal.returns
returns c = c.put-2.ensures ∙ rw (c.cell_value.ensures, c.put.ensures, c.cell_kind.ensures)
