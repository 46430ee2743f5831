-- Why the numbers of a line are no date or no window: the first that is wrong, in the order of the fields; an opening minute after the closing minute that bounds it.
use Rattle.std.specs.Prelude.{cond, ◌&&◌, ℕ, leb, ltb, Option, Some, None}
use Rattle.explain_fields.specs.declared.reasons.Fault.{Fault}
use Rattle.explain_fields.specs.declared.reasons.Spot.TheVariants as PV
use Rattle.schedule.specs.Calendar.{month_days}
use Rattle.explain_schedule.specs.declared.reasons.Reason.{Reason}
use Rattle.explain_schedule.specs.declared.reasons.Reason.TheVariants as WV

-- the number in a field, which is its only piece
abbrev pub outside : Reason → ℕ → Fault Reason
outside why field = record { why = why; spot = PV.Piece field 1 }

-- "year 2000 to 2199", "a real date"
unfoldable pub date_range : ℕ → ℕ → ℕ → Option (Fault Reason)
date_range year month day =
    cond (leb 2000 year && leb year 2199)
    (cond (leb 1 month && leb month 12)
    (cond (leb 1 day && leb day (month_days year month)) None (Some (outside (WV.NoDay (month_days year month)) 3)))
    (Some (outside WV.NoMonth 2)))
    (Some (outside WV.NoYear 1))

-- "weekday 1 (Monday) to 7, opening and closing minute, 0 to 1,440 with opening below closing", "an input below 16"
unfoldable pub window_range : ℕ → ℕ → ℕ → ℕ → Option (Fault Reason)
window_range input weekday opening closing =
    cond (ltb input 16)
    (cond (leb 1 weekday && leb weekday 7)
    (cond (leb closing 1440)
    (cond (ltb opening closing) None (Some (outside (WV.NotBelow closing) 3)))
    (Some (outside WV.NoMinute 4)))
    (Some (outside WV.NoWeekday 2)))
    (Some (outside WV.NoInput 1))
