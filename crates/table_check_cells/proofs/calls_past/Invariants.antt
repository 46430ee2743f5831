use Prim.Native.Nat.{◌≤◌, ◌-◌}
use mathlib.Core.Path.{◌≡◌}
use Rattle.table_check_cells.specs.Pass.{calls_past}
use Rattle.table_check_cells.proofs.calls_past.Given as goal

abbrev pub invariant-loop : goal.invariant-loop
invariant-loop l = (l.a ≤ 11080) × (calls_past l.t l.names l.a (l.n - l.counter) ≡ calls_past l.t l.names l.cells l.n)
