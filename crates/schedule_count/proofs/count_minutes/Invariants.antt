use mathlib.Core.Path.{◌≡◌}
use lib.ListN.{length}
use Rattle.schedule_minutes.specs.Minutes.{minute_edges}
use Rattle.schedule_minutes.proofs.Walking.{Stands}
use Rattle.schedule_count.proofs.count_minutes.Given as goal

abbrev pub invariant-loop-k : goal.invariant-loop-k
invariant-loop-k l = Stands l.week l.minute l._k l.before l.at × (l.count ≡ length (minute_edges l.week l.minute l._k))
