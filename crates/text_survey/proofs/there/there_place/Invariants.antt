use Prim.Native.Nat.{◌-◌}
use lib.ListN.{length}
use Rattle.text_survey.proofs.TherePass as pass
use Rattle.text_survey.proofs.there.there_place.Given as goal

abbrev pub invariant-loop-at : goal.invariant-loop-at
invariant-loop-at l = pass.There l.s l.at.offset l.at.line l.here

abbrev pub decreases-loop-at : goal.decreases-loop-at
decreases-loop-at l = length l.s - l.at.offset
