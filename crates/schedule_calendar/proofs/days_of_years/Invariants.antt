use Prim.Native.Nat.{◌≤◌, ◌-◌, ◌*◌}
use mathlib.Core.Path.{◌≡◌}
use Rattle.schedule.specs.Calendar.{days_of_years}
use Rattle.schedule_calendar.proofs.days_of_years.Given as goal

abbrev pub invariant-loop-y : goal.invariant-loop-y
invariant-loop-y l = (l.days ≡ days_of_years (l.y - 2000)) × (l.days ≤ 366 * (l.y - 2000))
