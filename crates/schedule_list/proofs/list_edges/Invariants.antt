use mathlib.Core.List.{List}
use Prim.Native.Nat.{ℕ, ◌/◌}
use lib.ListN.{take}
use Rattle.schedule_minutes.specs.Minutes.{minute_edges}
use Rattle.schedule_list.specs.Lists.{Written}
use Rattle.schedule_list.proofs.list_edges.Given as goal

abbrev pub invariant-loop-place : goal.invariant-loop-place
invariant-loop-place l =
    (m k v : List ℕ) → Written (take l.weekly (minute_edges l.week (l.first / 60000) l.minutes)) 0 m k v l.initial.moments l.initial.inputs l.initial.values l.weekly →
    Written (take l.place (minute_edges l.week (l.first / 60000) l.minutes)) 0 m k v l.moments l.inputs l.values l.place
