use mathlib.Core.Path.{◌≡◌}
use Prim.Native.Nat.{◌≤◌}
use lib.ListN.{length}
use Rattle.listing.specs.Load.{is_long_enough}
use Rattle.test_cases.specs.Frame.{onward}
use Rattle.test_load.proofs.Turning.{Rest}
use Rattle.test_load.proofs.run_file.Given as goal

abbrev pub invariant-loop-done : goal.invariant-loop-done
invariant-loop-done l =
    (l.failed ≤ l.done) × (length l.table ≡ length l.initial.table) × (length l.other ≡ length l.initial.other)
    × Rest (is_long_enough l.initial.table) l.s (onward l.s 0 4) l.cases l.at l.done l.failed
