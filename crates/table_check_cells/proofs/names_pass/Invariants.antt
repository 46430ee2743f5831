use Prim.Native.Nat.{◌+◌, ◌*◌, ◌-◌}
use mathlib.Core.Path.{◌≡◌}
use Rattle.table_check_cells.specs.Pass.{names_test}
use Rattle.table_check_cells.proofs.names_pass.Given as goal

abbrev pub invariant-loop-i : goal.invariant-loop-i
invariant-loop-i l = names_test l.t l.names (l.a + 2 * l.i) (l.n - l.i) ≡ names_test l.t l.names l.a l.n
