-- `schedule_list::list_minutes` meets its contract.
use mathlib.Core.Path.{◌≡◌}
use native.Mathlib.Omega.{arith}
use Rattle.schedule_minutes.proofs.Edges.{minutes_none}
use Rattle.schedule_minutes.proofs.Walking.{stands_first, in_week, stands_next}
use Rattle.schedule_list.proofs.Lists as lists
use Rattle.schedule_list.proofs.Minutes as minutes
use Rattle.schedule_list.proofs.list_minutes.Goals as goal

pub loop-k-init : goal.loop-k-init
loop-k-init c = (stands_first _ _, rw (minutes_none _ _) (lists.written_none 0 _ _ _))

pub offset_bounds-week-at : goal.offset_bounds-week-at
offset_bounds-week-at c = omega (arith, in_week _ _ _ _ _ c.loop-k.invariant.0)

pub bounds-week-at : goal.bounds-week-at
bounds-week-at c = omega (arith, in_week _ _ _ _ _ c.loop-k.invariant.0)

pub list_minute-place-requires : goal.list_minute-place-requires
list_minute-place-requires c =
    let v = c.loop-k in
    let a = c.args in
    (omega arith, omega arith, minutes.minute_fits a.week.now a.first v.k _ _ c.requires.1 v.invariant.0 v.invariant.1 a.minutes (omega arith) c.requires.5)

pub next_minute-at-requires : goal.next_minute-at-requires
next_minute-at-requires c = in_week _ _ _ _ _ c.loop-k.invariant.0

pub loop-k-preserved : goal.loop-k-preserved
loop-k-preserved c =
    let v = c.loop-k in
    let a = c.args in
    let w = a.week.now in (
      stands_next w _ v.k _ _ v.invariant.0 _ c.next_minute-at.ensures,
      minutes.minute_written w a.first v.k _ _ c.requires.1 v.invariant.0 v.invariant.1 c.list_minute-place.ensures,
    )

pub returns : goal.returns
returns c =
    let v = c.loop-k in
    let e : v.k ≡ c.args.minutes = omega arith in
    rw e at v.invariant.1
