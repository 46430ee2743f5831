-- `schedule_calendar::days_of_months` meets its contract.
use mathlib.Core.Path.{refl}
use native.Mathlib.Omega.{arith}
use Rattle.listing.specs.Lists.{total}
use Rattle.schedule.specs.Calendar.{days_of_months}
use Rattle.schedule_calendar.proofs.Dates.{month_passed}
use Rattle.schedule_calendar.proofs.days_of_months.Goals as goal

pub loop-m-init : goal.loop-m-init
unfolding days_of_months total
loop-m-init c = (refl, omega arith)

pub loop-m-preserved : goal.loop-m-preserved
loop-m-preserved c =
    let v = c.loop-m in
    (cc (month_passed c.args.year v.m (omega arith)), omega arith)
