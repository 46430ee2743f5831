use Prim.Native.Nat.{◌-◌}
use lib.ListN.{length}
use Rattle.table_cells.proofs.CellLoop as loop
use Rattle.table_cells.proofs.cell.write_cells.Given as goal

abbrev pub invariant-loop-next : goal.invariant-loop-next
invariant-loop-next l = loop.Writing l.s l.initial.t l.a l.plain l.initial.at l.line l.at l.count l.t

abbrev pub decreases-loop-next : goal.decreases-loop-next
decreases-loop-next l = length l.s - l.at
