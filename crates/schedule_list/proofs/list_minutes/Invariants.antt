use Prim.Native.Nat.{◌/◌}
use Rattle.schedule_minutes.specs.Minutes.{minute_edges}
use Rattle.schedule_minutes.proofs.Walking.{Stands}
use Rattle.schedule_list.specs.Lists.{Written}
use Rattle.schedule_list.proofs.list_minutes.Given as goal

abbrev pub invariant-loop-k : goal.invariant-loop-k
invariant-loop-k l = Stands l.week (l.first / 60000) l.k l.before l.at × Written (minute_edges l.week (l.first / 60000) l.k) 0 l.initial.moments l.initial.inputs l.initial.values l.moments l.inputs l.values l.place
