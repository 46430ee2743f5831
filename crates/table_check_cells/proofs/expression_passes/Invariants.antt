use Prim.Native.Nat.{◌+◌, ◌*◌, ◌-◌, ◌≤◌}
use mathlib.Core.Path.{◌≡◌}
use Rattle.table_check_cells.specs.Pass.{expression_test}
use Rattle.table_check_cells.proofs.expression_passes.Given as goal

abbrev pub invariant-loop-i : goal.invariant-loop-i
invariant-loop-i l = (l.held ≤ 8) × (expression_test l.t l.names l.held (l.a + 2 * l.i) (l.n - l.i) ≡ expression_test l.t l.names 0 l.a l.n)
