use mathlib.Core.Path.{◌≡◌, refl, sym, ap, subst, ◌∙◌}
use Prim.Native.Nat.{ℕ, ◌+◌, ◌*◌, ◌≤◌, ◌<◌}
use native.Mathlib.Omega.{arith}
use borrow.Author.Rules.{rules}
use Rattle.engine_rows.specs.Rows.{Row}
use Rattle.engine_blocks.specs.Blocks.{rows_of}
use Rattle.table_read.specs.Opened.{code_at, entry_of}
use Rattle.engine_straight.proofs.OnTheWay.{OnItsWay, way_begins, may_step_first, routine_few, table_long, may_step_there, room_there, fetched_there, way_on, way_stops, way_needs, way_used_up}
use Rattle.engine_straight.proofs.run_straight.Given as goal

abbrev pub invariant-loop-left : goal.invariant-loop-left
invariant-loop-left l = OnItsWay l.t l.present.0 l.initial.m l.allowance l.me l.m l.place l.left × (l.code ≡ code_at l.t (rows_of l.initial.m l.me).routine)

abbrev pub decreases-loop-left : goal.decreases-loop-left
decreases-loop-left l = l.left
