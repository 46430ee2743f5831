-- `schedule_week::mark_minutes` meets its contract.
use mathlib.Core.Path.{◌≡◌}
use native.Mathlib.Omega.{arith}
use Rattle.schedule_week.proofs.Marking as marking
use Rattle.schedule_week.proofs.mark_minutes.Goals as goal

pub loop-minute-init : goal.loop-minute-init
loop-minute-init c = marking.none_marked _ _ _

pub loop-minute-preserved : goal.loop-minute-preserved
loop-minute-preserved c =
    let v = c.loop-minute in
    marking.one_marked c.args.input c.args.from v.minute c.args.week.now v.week (omega arith) (omega (arith, v.invariant.size)) v.invariant c.requires.0

pub returns : goal.returns
returns c =
    let v = c.loop-minute in
    let e : v.minute ≡ c.args.to = omega arith in
    rw (← e) v.invariant
