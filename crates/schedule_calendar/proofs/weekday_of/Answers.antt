-- `schedule_calendar::weekday_of` meets its contract.
use Prim.Native.Nat.{ℕ, ◌+◌, ◌-◌, ◌%◌}
use mathlib.Core.Path.{◌≡◌, ap}
use native.Mathlib.Omega.{arith}
use Rattle.schedule.specs.Calendar.{days_of_years, days_of_months, day_number, weekday_after}
use Rattle.schedule_calendar.proofs.Dates.{real_date}
use Rattle.schedule_calendar.proofs.weekday_of.Goals as goal

pub days_of_years-requires : goal.days_of_years-requires
days_of_years-requires c = omega (arith, real_date _ _ _ c.requires)

pub days_of_months-requires : goal.days_of_months-requires
days_of_months-requires c = omega (arith, real_date _ _ _ c.requires)

pub overflow_sub-days : goal.overflow_sub-days
overflow_sub-days c = omega (arith, real_date _ _ _ c.requires)

pub overflow_add-days-2 : goal.overflow_add-days-2
overflow_add-days-2 c = omega (arith, real_date _ _ _ c.requires)

pub overflow_add-result : goal.overflow_add-result
overflow_add-result c = omega (arith, real_date _ _ _ c.requires)

pub returns : goal.returns
unfolding weekday_after day_number
returns c =
    let a = c.args in
    let number : 5 + (c.days_of_years.result + c.days_of_months.result + (a.date.day - 1))
    ≡ 5 + (days_of_years (a.date.year - 2000) + days_of_months a.date.year (a.date.month - 1) + (a.date.day - 1)) + 0 = omega arith in
    (ap (λ (n : ℕ). 1 + n % 7) number, omega arith, omega arith)
