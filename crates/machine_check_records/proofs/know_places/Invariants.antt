use Prim.Native.Nat.{◌≤◌}
use mathlib.Core.Path.{◌≡◌}
use Rattle.machine.specs.Words.{know_places}
use Rattle.machine_check_records.proofs.know_places.Given as goal

abbrev pub invariant-loop-k : goal.invariant-loop-k
invariant-loop-k l = (l.k ≤ l.n) × (know_places l.m l.k ≡ know_places l.m l.n)
