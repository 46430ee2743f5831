use Prim.Native.Nat.{◌-◌}
use lib.ListN.{length}
use Rattle.schedule_read.proofs.Reading as reading
use Rattle.schedule_read.proofs.read_windows.Given as goal

abbrev pub invariant-loop-at : goal.invariant-loop-at
invariant-loop-at l = reading.Passed l.s l.first l.initial.week l.initial.at.offset l.initial.at.line l.week l.at.offset l.at.line

abbrev pub decreases-loop-at : goal.decreases-loop-at
decreases-loop-at l = length l.s - l.at.offset
