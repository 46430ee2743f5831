-- The steps made so far lead from the memories at the beginning to those of now. The measure is the number of steps that can still be made.
use Rattle.session_replay.specs.Phases.{memories}
use Rattle.session_replay.specs.Ending.{steps_left}
use Rattle.session_files.proofs.Turning.{Going}
use Rattle.session_files.proofs.run.Given as goal

abbrev pub invariant-loop-errors : goal.invariant-loop-errors
invariant-loop-errors g l =
    Going l.listing l.trace (memories l.initial.table l.initial.machine l.initial.out) (memories l.table l.machine l.out) l.phase (g.W.Write.contents l.initial.writer) (g.W.Write.contents l.writer)

abbrev pub decreases-loop-errors : goal.decreases-loop-errors
decreases-loop-errors g l = steps_left l.phase
