use Rattle.session_replay.specs.Phases.{memories}
use Rattle.session_replay.specs.Ending.{steps_left}
use Rattle.test_sessions.proofs.Steps.{Playing}
use Rattle.test_sessions.proofs.playing.plays.Given as goal

abbrev pub invariant-loop-table : goal.invariant-loop-table
invariant-loop-table l = Playing l.listing l.trace l.print (memories l.initial.table l.initial.machine l.initial.out) (memories l.table l.machine l.out) l.step.phase l.step.at

abbrev pub decreases-loop-table : goal.decreases-loop-table
decreases-loop-table l = steps_left l.step.phase
