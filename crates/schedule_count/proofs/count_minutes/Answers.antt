-- `schedule_count::count_minutes` meets its contract.
use mathlib.Core.Path.{◌≡◌, sym, ap}
use native.Mathlib.Omega.{arith}
use lib.ListN.{length}
use Rattle.schedule_minutes.specs.Minutes.{minute_edges}
use Rattle.schedule_minutes.proofs.Edges.{minutes_none, minutes_most}
use Rattle.schedule_minutes.proofs.Walking.{stands_first, in_week, stands_next, count_next}
use Rattle.schedule_count.proofs.count_minutes.Goals as goal

pub loop-k-init : goal.loop-k-init
loop-k-init c = (stands_first _ _, sym (ap length (minutes_none _ _)))

pub offset_bounds-week-at : goal.offset_bounds-week-at
offset_bounds-week-at c = omega (arith, in_week _ _ _ _ _ c.loop-k.invariant.0)

pub bounds-week-at : goal.bounds-week-at
bounds-week-at c = omega (arith, in_week _ _ _ _ _ c.loop-k.invariant.0)

pub overflow_add-count : goal.overflow_add-count
overflow_add-count c =
    let v = c.loop-k in
    let a = c.args in
    omega (arith, minutes_most a.week.now a.minute v._k, v.invariant.1, c.count_changes-count.ensures.1)

pub next_minute-at-requires : goal.next_minute-at-requires
next_minute-at-requires c = in_week _ _ _ _ _ c.loop-k.invariant.0

pub loop-k-preserved : goal.loop-k-preserved
loop-k-preserved c =
    let v = c.loop-k in
    let a = c.args in
    let w = a.week.now in
    let s = v.invariant.0 in
    (stands_next w a.minute v._k _ _ s _ c.next_minute-at.ensures, count_next w a.minute v._k _ _ s _ _ v.invariant.1 (c.count_changes-count.ensures.0 _))

pub returns : goal.returns
returns c =
    let v = c.loop-k in
    let a = c.args in
    let e : v._k ≡ a.minutes = omega arith in
    let n : v.count ≡ length (minute_edges a.week.now a.minute a.minutes) = rw e at v.invariant.1 in
    (n, omega (arith, minutes_most a.week.now a.minute a.minutes))
