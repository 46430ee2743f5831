-- `schedule_calendar::days_of_years` meets its contract.
use mathlib.Core.Path.{refl}
use native.Mathlib.Omega.{arith}
use Rattle.schedule.specs.Calendar.{days_of_years}
use Rattle.schedule_calendar.proofs.Dates.{year_passed}
use Rattle.schedule_calendar.proofs.days_of_years.Goals as goal

pub loop-y-init : goal.loop-y-init
unfolding days_of_years
loop-y-init c = (refl, omega arith)

pub loop-y-preserved : goal.loop-y-preserved
loop-y-preserved c =
    let v = c.loop-y in
    (cc (year_passed v.y (omega arith)), omega arith)
