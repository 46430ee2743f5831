use Rattle.session_replay.specs.Phases.{memories}
use Rattle.session_replay.specs.Ending.{steps_left}
use Rattle.explain_played.proofs.Steps.{Going}
use Rattle.explain_played.proofs.last.last_step.Given as goal

abbrev pub invariant-loop-next : goal.invariant-loop-next
invariant-loop-next l = Going l.listing l.trace (memories l.initial.table l.initial.machine l.initial.out) (memories l.table l.machine l.out) l.phase

abbrev pub decreases-loop-next : goal.decreases-loop-next
decreases-loop-next l = steps_left l.phase
