use mathlib.Core.Path.{◌≡◌}
use Prim.Native.Nat.{◌≤◌}
use lib.ListN.{length}
use Rattle.test_calls.proofs.Turning.{Rest}
use Rattle.test_calls.proofs.run_items.Given as goal

abbrev pub invariant-loop-done : goal.invariant-loop-done
invariant-loop-done l = (l.failed ≤ l.done) × (l.table ≡ l.initial.table) × (length l.machine ≡ length l.initial.machine) × (length l.kept ≡ length l.initial.kept) × Rest l.s l.initial.table l.initial.machine l.initial.kept l.from l.count l.machine l.kept l.at l.done l.failed
