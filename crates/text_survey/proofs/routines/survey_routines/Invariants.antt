use Prim.Native.Nat.{◌-◌}
use lib.ListN.{length}
use Rattle.text_survey.proofs.Surveying as pass
use Rattle.text_survey.proofs.routines.survey_routines.Given as goal

abbrev pub invariant-loop-at : goal.invariant-loop-at
invariant-loop-at l = pass.Surveying l.s l.at.offset l.at.line l.survey

abbrev pub decreases-loop-at : goal.decreases-loop-at
decreases-loop-at l = length l.s - l.at.offset
