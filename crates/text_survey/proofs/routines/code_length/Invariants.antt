use Prim.Native.Nat.{◌-◌}
use lib.ListN.{length}
use Rattle.text_survey.proofs.Surveying as pass
use Rattle.text_survey.proofs.routines.code_length.Given as goal

abbrev pub invariant-loop-at : goal.invariant-loop-at
invariant-loop-at l = pass.Counting l.s l.initial.at.offset l.initial.at.line l.at.offset l.at.line l.count

abbrev pub decreases-loop-at : goal.decreases-loop-at
decreases-loop-at l = length l.s - l.at.offset
