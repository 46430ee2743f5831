use Rattle.schedule_week.specs.Week.{Marked}
use Rattle.schedule_week.proofs.mark_minutes.Given as goal

abbrev pub invariant-loop-minute : goal.invariant-loop-minute
invariant-loop-minute l = Marked l.input l.from l.minute l.initial.week l.week
