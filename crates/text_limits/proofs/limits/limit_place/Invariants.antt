use Prim.Native.Nat.{◌-◌}
use lib.ListN.{length}
use Rattle.text_limits.proofs.LimitPass as pass
use Rattle.text_limits.proofs.limits.limit_place.Given as goal

abbrev pub invariant-loop-at : goal.invariant-loop-at
invariant-loop-at l = pass.Limiting l.s l.at.offset l.at.line l.held

abbrev pub decreases-loop-at : goal.decreases-loop-at
decreases-loop-at l = length l.s - l.at.offset
