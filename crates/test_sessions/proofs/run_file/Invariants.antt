use Prim.Native.Nat.{◌≤◌}
use Rattle.test_cases.specs.Frame.{onward}
use Rattle.session_replay.specs.Phases.{memories}
use Rattle.session_replay.specs.Ending.{AsLong}
use Rattle.test_sessions.proofs.Turning.{Rest}
use Rattle.test_sessions.proofs.run_file.Given as goal

abbrev pub invariant-loop-done : goal.invariant-loop-done
invariant-loop-done l = (l.failed ≤ l.done) × AsLong (memories l.initial.table l.initial.machine l.initial.out) (memories l.table l.machine l.out) × Rest l.s (onward l.s 0 4) l.cases l.at l.done l.failed
