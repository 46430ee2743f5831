-- What reading a schedule gives: the first line where question 19 says no, and the week of the windows before it.
use Rattle.std.specs.Prelude.{◌≡◌, List, [], ◌∷◌, ◌++◌, map, ℕ, drop}
use Rattle.std.proofs.Math.Option.{Option, none, some}
use Rattle.listing.specs.Lists.{is_empty, is_some, first_no_from}
use Rattle.listing.specs.Bytes.{Bytes}
use Rattle.listing.specs.Questions.{closed_lines, unclosed}
use Rattle.text_place.specs.declared.place.Place.{Place}
use Rattle.schedule.specs.Calendar.{Date, weekday_after}
use Rattle.schedule.specs.Schedule.{Window}
use Rattle.schedule.specs.Form.{read_date, read_window, place19}
use Rattle.schedule_week.specs.Week.{WeekOf}

-- a window in front of others, if there is one; behind a line that is none nothing counts
unfoldable pub ahead : Option Window → List Window → List Window
ahead none windows = []
ahead (some w) windows = w ∷ windows

-- the windows of the lines before the first that is none
unfoldable pub windows_before : List Bytes → List Window
windows_before [] = []
windows_before (line ∷ lines) = ahead (read_window line) (windows_before lines)

-- the first of these lines that is no window, or the unclosed one behind them; 0 if there is neither
unfoldable pub first_no_window : ℕ → Bytes → ℕ
first_no_window line text = first_no_from line (map (λ l. is_some (read_window l)) (closed_lines text) ++ (is_empty (unclosed text) ∷ []))

pub record ReadsWindows (s : Bytes) (p : Place) (first : ℕ) (week : List ℕ) (line : ℕ) : Type 0 where
  pub line_is_lem : line ≡ first_no_window p.line (drop p.offset s)
  pub week_is : WeekOf first (windows_before (closed_lines (drop p.offset s))) week

-- by the date of the first line: without one no window counts
abbrev pub WeekAfter : Option Date → List Bytes → List ℕ → Type 0
WeekAfter none lines week = WeekOf 1 [] week
WeekAfter (some date) lines week = WeekOf (weekday_after date 0) (windows_before lines) week

abbrev pub WeekBefore : List Bytes → List ℕ → Type 0
WeekBefore [] week = WeekOf 1 [] week
WeekBefore (line ∷ lines) week = WeekAfter (read_date line) lines week

pub record Reads (s : Bytes) (week : List ℕ) (line : ℕ) : Type 0 where
  pub line_is_lem : line ≡ place19 s
  pub week_is : WeekBefore (closed_lines s) week
