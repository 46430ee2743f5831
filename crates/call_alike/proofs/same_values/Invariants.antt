use Prim.Native.Nat.{◌+◌, ◌*◌, ◌-◌, ◌≤◌}
use mathlib.Core.Path.{◌≡◌}
use Rattle.call_alike.proofs.Comparing.{SameFrom}
use Rattle.call_alike.proofs.same_values.Given as goal

abbrev pub invariant-loop-i : goal.invariant-loop-i
invariant-loop-i l = (l.i ≤ l.k) × (SameFrom l.a l.b (12112 + l.i * 6) (l.k - l.i) ≡ SameFrom l.a l.b 12112 l.k)
