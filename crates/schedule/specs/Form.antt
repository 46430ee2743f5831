-- The text of a schedule read (document 02, Change 5): "lines in the listing's style, without a letter", fields "parted by tabs", and
-- "A first line (19 without it) gives in three such fields the Gregorian date".
use Rattle.std.specs.Prelude.{Bool, List, [], ◌∷◌, ◌++◌, map, ℕ}
use Rattle.std.proofs.Math.Option.{Option, none, some}
use Rattle.listing.specs.Lists.{is_empty, is_some, first_no}
use Rattle.listing.specs.Bytes.{Bytes}
use Rattle.listing.specs.Expressions.{bind, when, each}
use Rattle.listing.specs.Form.{Field, fields_of, next_field_lem, none_left_lem, read_number}
use Rattle.listing.specs.Questions.{closed_lines, unclosed, is_closed}
use Rattle.schedule.specs.Calendar.{Date, is_real_date}
use Rattle.schedule.specs.Schedule.{Window, Schedule, is_window}

-- "in three such fields the Gregorian date (year .., month, day)"
abbrev pub date_fields : List Field → Option Date
date_fields fields =
    next_field_lem read_number fields (λ y fields. next_field_lem read_number fields (λ m fields. next_field_lem read_number fields (λ d fields.
    none_left_lem fields (record { year = y; month = m; day = d }))))

-- "input number, weekday .., opening and closing minute .., parted by tabs"
abbrev pub window_fields : List Field → Option Window
window_fields fields =
    next_field_lem read_number fields (λ i fields. next_field_lem read_number fields (λ w fields.
    next_field_lem read_number fields (λ o fields. next_field_lem read_number fields (λ c fields.
    none_left_lem fields (record { input = i; weekday = w; opening = o; closing = c })))))

-- a line without its line feed: its form, and then its numbers
unfoldable pub read_date : Bytes → Option Date
read_date line = bind (date_fields (fields_of line)) (λ date. when (is_real_date date) date)

unfoldable pub read_window : Bytes → Option Window
read_window line = bind (window_fields (fields_of line)) (λ window. when (is_window window) window)

-- the first line is the date's, all others are windows
unfoldable pub schedule_of : List Bytes → Option Schedule
schedule_of [] = none
schedule_of (line ∷ lines) =
    bind (read_date line) (λ date. bind (each read_window lines) (λ windows. some (record { date = date; windows = windows })))

-- the schedule of a text; none if question 19 says no: every line is closed by a line feed
unfoldable pub read_schedule : Bytes → Option Schedule
read_schedule text = bind (schedule_of (closed_lines text)) (λ schedule. when (is_empty (unclosed text)) schedule)

-- ── the first line where question 19 says no, which `explain` names (the call's place is 0) ──────────────────────────
-- an answer for each closed line
unfoldable pub line_answers : List Bytes → List Bool
line_answers [] = []
line_answers (line ∷ lines) = is_some (read_date line) ∷ map (λ l. is_some (read_window l)) lines

-- and one at the line after them: is the text closed, with a first line in it?
unfoldable pub place19 : Bytes → ℕ
place19 text = first_no (line_answers (closed_lines text) ++ (is_closed text ∷ []))
