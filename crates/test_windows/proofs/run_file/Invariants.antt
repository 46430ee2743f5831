use Prim.Native.Nat.{◌≤◌}
use Rattle.test_cases.specs.Frame.{onward}
use Rattle.test_windows.proofs.Turning.{Rest}
use Rattle.test_windows.proofs.run_file.Given as goal

abbrev pub invariant-loop-done : goal.invariant-loop-done
invariant-loop-done l = (l.failed ≤ l.done) × Rest l.s (onward l.s 0 4) l.cases l.at l.done l.failed
