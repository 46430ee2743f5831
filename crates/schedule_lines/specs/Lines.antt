-- What the reader gives for a line of a schedule: the definitions' reading of it, and what closes it.
use Rattle.std.proofs.Math.Option.{Option, none, some}
use Rattle.std.specs.Prelude as Prelude
use Rattle.std.specs.Prelude.{Some, None, ℕ, get_or, drop}
use Rattle.listing.specs.Bytes.{Bytes}
use Rattle.text_place.specs.Texts.{first_line, line_end}
use Rattle.text_place.specs.Places.{passed}
use Rattle.text_place.specs.declared.place.Place.{Place}
use Rattle.schedule.specs.Calendar.{Date}
use Rattle.schedule.specs.Schedule.{Window}
use Rattle.schedule.specs.Form as F
use Rattle.schedule_lines.specs.declared.DateLine.{DateLine}
use Rattle.schedule_lines.specs.declared.WindowLine.{WindowLine}

abbrev pub as_date_line : Option Date → ℕ → Place → Prelude.Option DateLine
as_date_line none stop next = None
as_date_line (some d) stop next = Some (record { date = d; stop = stop; next = next })

abbrev pub as_window_line : Option Window → ℕ → Place → Prelude.Option WindowLine
as_window_line none stop next = None
as_window_line (some w) stop next = Some (record { window = w; stop = stop; next = next })

-- the line at a place
abbrev pub date_answer : Bytes → Place → Prelude.Option DateLine
date_answer s p = let end = line_end s p.offset in as_date_line (F.read_date (first_line (drop p.offset s))) (get_or s end 0) (passed s p.line end)

abbrev pub window_answer : Bytes → Place → Prelude.Option WindowLine
window_answer s p = let end = line_end s p.offset in as_window_line (F.read_window (first_line (drop p.offset s))) (get_or s end 0) (passed s p.line end)
