use Prim.Native.Nat.{◌≤◌, ◌+◌, ◌*◌, ◌-◌}
use mathlib.Core.Path.{◌≡◌}
use Rattle.table_check_ends.specs.Ends.{operand_count}
use Rattle.table_check_ends.proofs.operand_count.Given as goal

abbrev pub invariant-loop-i : goal.invariant-loop-i
invariant-loop-i l = (l.sum ≤ l.i) × (l.sum + operand_count l.t (328 + 5 * l.i) (l.n - l.i) ≡ operand_count l.t 328 l.n)
