use Prim.Native.Nat.{◌≤◌, ◌-◌}
use mathlib.Core.Path.{◌≡◌}
use Rattle.table_check.specs.Check.{pass_from}
use Rattle.table_check.proofs.routines_pass.Given as goal

abbrev pub invariant-loop-number : goal.invariant-loop-number
invariant-loop-number l = (l.first ≤ 512) × (l.cells ≤ 11080) × (pass_from l.t l.number l.first l.cells (l.n - l.number) ≡ pass_from l.t 0 0 2888 l.n)
