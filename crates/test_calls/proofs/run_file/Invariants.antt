use Prim.Native.Nat.{◌≤◌}
use Rattle.test_cases.specs.Frame.{onward}
use Rattle.test_calls.proofs.Turning.{CasesLeft}
use Rattle.test_calls.proofs.run_file.Given as goal

abbrev pub invariant-loop-done : goal.invariant-loop-done
invariant-loop-done l = (l.failed ≤ l.done) × CasesLeft l.s (onward l.s 0 4) l.cases l.at l.done l.failed
