use Prim.Native.Nat.{◌≤◌, ◌-◌, ◌*◌}
use mathlib.Core.Path.{◌≡◌}
use Rattle.schedule.specs.Calendar.{days_of_months}
use Rattle.schedule_calendar.proofs.days_of_months.Given as goal

abbrev pub invariant-loop-m : goal.invariant-loop-m
invariant-loop-m l = (l.days ≡ days_of_months l.year (l.m - 1)) × (l.days ≤ 31 * (l.m - 1))
