-- `schedule_calendar::month_days` meets its contract.
use Prim.Native.Nat.{◌-◌}
use mathlib.Core.Path.{◌≡◌, sym, ◌∙◌}
use mathlib.Core.Bool.{true, false}
use Rattle.schedule.specs.Calendar.{is_leap, month_lengths, month_days}
use Rattle.schedule_calendar.proofs.Dates.{short_month}
use Rattle.schedule_calendar.proofs.month_days.Goals as goal

pub returns-then-is_leap : goal.returns-then-is_leap
unfolding month_days month_lengths
returns-then-is_leap c =
    let leap : is_leap c.args.year ≡ true = sym c.is_leap.ensures ∙ c.if-is_leap.true in
    (rw leap, short_month true (c.args.month - 1))

pub returns : goal.returns
unfolding month_days month_lengths
returns c =
    let other : is_leap c.args.year ≡ false = sym c.is_leap.ensures ∙ c.if-is_leap.false in
    (rw other, short_month false (c.args.month - 1))
