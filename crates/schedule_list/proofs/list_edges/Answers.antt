-- `schedule_list::list_edges` meets its contract.
use mathlib.Core.Path.{◌≡◌}
use Prim.Native.Nat.{◌/◌}
use native.Mathlib.Omega.{arith}
use lib.ListN.{length, take}
use lib.Seq.{take_all}
use Rattle.schedule_minutes.specs.Minutes.{minute_edges}
use Rattle.schedule_list.proofs.Lists as lists
use Rattle.schedule_list.proofs.Minutes.{minutes_mono}
use Rattle.schedule_list.proofs.Weeks as weeks
use Rattle.schedule_list.proofs.list_edges.Goals as goal

pub list_minutes-requires : goal.list_minutes-requires
list_minutes-requires c = let p = c.requires in (p.0, p.1, p.2, omega arith, p.3, p.5)

pub returns-then-minutes-le-WEEK : goal.returns-then-minutes-le-WEEK
returns-then-minutes-le-WEEK c = lists.written_all c.list_minutes.ensures c.args.total c.requires.4

pub list_minutes-weekly-requires : goal.list_minutes-weekly-requires
list_minutes-weekly-requires c =
    let p = c.requires in
    let mono = minutes_mono c.args.week.now (c.args.first / 60000) 10080 c.args.minutes (omega arith) in
    (p.0, p.1, p.2, omega arith, omega arith, lists.fits_shorter {xs = minute_edges c.args.week.now (c.args.first / 60000) 10080} mono p.5)

pub list_again-requires : goal.list_again-requires
list_again-requires c =
    let v = c.loop-place in
    let x = c.list_minutes-weekly.ensures in
    let a = c.args in
    let w = a.week.now in
    let e : c.list_minutes-weekly.result ≡ length (minute_edges w (a.first / 60000) 10080) = omega (arith, x.next_is_lem) in
    let so_far = v.invariant _ _ _ (weeks.week_written w (a.first / 60000) a.minutes c.requires.2 (omega arith) x) in
    rw e (weeks.again_fits w (a.first / 60000) a.minutes c.requires.2 (omega arith) (omega arith) v.place (omega arith) (omega (arith, c.requires.4)) c.requires.5 so_far)

pub loop-place-preserved : goal.loop-place-preserved
loop-place-preserved c =
    let v = c.loop-place in
    let a = c.args in
    let w = a.week.now in
    let again = c.list_again.ensures in
    let r = c.list_minutes-weekly.result in
    let x = c.list_minutes-weekly.ensures in
    let e : r ≡ length (minute_edges w (a.first / 60000) 10080) = omega (arith, x.next_is_lem) in
    λ l k u begun.
    weeks.again_written w (a.first / 60000) a.minutes c.requires.2 (omega arith) (omega arith) v.place (omega arith) (omega (arith, c.requires.4))
    (lists.fits_same {xs = minute_edges w (a.first / 60000) 10080} x begun c.requires.5) (v.invariant l k u begun) (rw e at again.0) (rw e at again.1) (rw e at again.2)

pub returns : goal.returns
returns c =
    -- all is written
    let v = c.loop-place in
    let a = c.args in
    let w = a.week.now in
    let so_far = v.invariant _ _ _ (weeks.week_written w (a.first / 60000) a.minutes c.requires.2 (omega arith) c.list_minutes-weekly.ensures) in
    let mono = minutes_mono w (a.first / 60000) 10080 a.minutes (omega arith) in
    let e : v.place ≡ a.total = omega (arith, c.list_minutes-weekly.ensures.next_is_lem, c.requires.4) in
    let f : take v.place (minute_edges w (a.first / 60000) a.minutes) ≡ minute_edges w (a.first / 60000) a.minutes = take_all v.place (minute_edges w (a.first / 60000) a.minutes) (omega (arith, c.requires.4)) in
    lists.written_all (rw f at so_far) a.total c.requires.4
