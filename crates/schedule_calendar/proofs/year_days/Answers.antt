-- `schedule_calendar::year_days` meets its contract.
use mathlib.Core.Path.{◌≡◌, sym, ◌∙◌}
use mathlib.Core.Bool.{true, false}
use native.Mathlib.Omega.{arith}
use Rattle.schedule.specs.Calendar.{is_leap, year_days}
use Rattle.schedule_calendar.proofs.year_days.Goals as goal

pub returns-then-is_leap : goal.returns-then-is_leap
unfolding year_days
returns-then-is_leap c =
    let leap : is_leap c.args.year ≡ true = sym c.is_leap.ensures ∙ c.if-is_leap.true in
    (rw leap, omega arith)

pub returns-else-is_leap : goal.returns-else-is_leap
unfolding year_days
returns-else-is_leap c =
    let other : is_leap c.args.year ≡ false = sym c.is_leap.ensures ∙ c.if-is_leap.false in
    (rw other, omega arith)
