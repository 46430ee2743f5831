use Prim.Native.Nat.{◌≤◌, ◌+◌, ◌*◌, ◌-◌}
use mathlib.Core.Path.{◌≡◌}
use Rattle.table_check_cells.specs.Pass.{code_past}
use Rattle.table_check_code.proofs.code_past.Given as goal

abbrev pub invariant-loop-i : goal.invariant-loop-i
invariant-loop-i l = (l.next ≤ 11080) × (code_past l.t l.names l.size (l.e + 5 * l.i) l.next (l.n - l.i) ≡ code_past l.t l.names l.size l.e l.cells l.n)
