use Prim.Native.Nat.{◌-◌}
use lib.ListN.{length}
use Rattle.text_endings.proofs.EndingPass as pass
use Rattle.text_endings.proofs.endings.ending_place.Given as goal

abbrev pub invariant-loop-at : goal.invariant-loop-at
invariant-loop-at l = pass.Ending l.s l.at.offset l.at.line l.may_end

abbrev pub decreases-loop-at : goal.decreases-loop-at
decreases-loop-at l = length l.s - l.at.offset
