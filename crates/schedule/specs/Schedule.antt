-- A schedule: its date, and its windows.
-- Document 02, Change 5: "input number, weekday 1 (Monday) to 7, opening and closing minute, 0 to 1,440 with opening below closing".
use Rattle.std.specs.Prelude.{◌≡◌, Bool, true, ◌&&◌, List, leb, ltb}
use Rattle.listing.specs.Lists.{all}
use Rattle.schedule.specs.Calendar.{Date, is_real_date}
use Rattle.schedule.specs.declared.Window as Declared

-- input, weekday, opening and closing minute
abbrev pub Window : Type 0
Window = Declared.Window

pub record Schedule : Type 0 where
  pub date : Date
  pub windows : List Window

-- "an input below 16, and a real .. minute": the numbers of a window; an opening minute is below its closing minute, so below 1,440
unfoldable pub is_window : Window → Bool
is_window w =
    ltb w.input 16
    && ((leb 1 w.weekday && leb w.weekday 7)
    && (ltb w.opening w.closing && leb w.closing 1440))

-- a schedule that a text can have
pub record IsSchedule (s : Schedule) : Type 0 where
  pub date_is : is_real_date s.date ≡ true
  pub windows_are : all is_window s.windows ≡ true
