-- Dates and texts by computation: weekdays, dates that are real and that are not, and texts with the place that question 19 gives them.
use mathlib.Core.Path.{◌≡◌, refl}
use mathlib.Core.Bool.{true, false}
use mathlib.Core.List.{List, [], ◌∷◌, map}
use mathlib.Core.Option.{some}
use Prim.Native.Nat.{ℕ}
use Prim.Native.String.{String}
use Rattle.listing.specs.Lists as Lists
use Rattle.listing.specs.Bytes as Bytes
use Rattle.listing.specs.Bytes.{Bytes, bytes_of}
use Rattle.listing.specs.Expressions as Expressions
use Rattle.listing.specs.Form as Form
use Rattle.listing.specs.Questions as Questions
use Rattle.listing.specs.Evaluation.{write}
use Rattle.schedule.specs.Calendar as Calendar
use Rattle.schedule.specs.Calendar.{Date, is_real_date, weekday_after}
use Rattle.schedule.specs.Schedule.{Schedule, is_window}
use Rattle.schedule.specs.Form as Read
use Rattle.schedule.specs.Form.{read_schedule, place19}
use Rattle.schedule.specs.Text.{windows_text, schedule_text}

-- ── dates ────────────────────────────────────────────────────────────────────────
date : ℕ → ℕ → ℕ → Date
date year month day = record { year = year; month = month; day = day }

-- where this is unfolded, a date computes
weekday : Date → ℕ
unfolding Lists.total Calendar.is_leap Calendar.month_lengths Calendar.month_days Calendar.year_days Calendar.is_real_date
    Calendar.days_of_years Calendar.days_of_months Calendar.day_number Calendar.weekday_after
weekday d = weekday_after d 0

weekdays-agree :
    map weekday (date 2000 1 1 ∷ date 2000 2 29 ∷ date 2000 3 1 ∷ date 2024 4 1 ∷ date 2100 2 28 ∷ date 2100 3 1 ∷ date 2199 12 31 ∷ []) ≡ 6 ∷ 2 ∷ 3 ∷ 1 ∷ 7 ∷ 1 ∷ 2 ∷ []
unfolding weekday date
weekdays-agree = refl

real : List Date
real = date 2000 1 1 ∷ date 2000 2 29 ∷ date 2024 2 29 ∷ date 2100 2 28 ∷ date 2023 4 30 ∷ date 2023 12 31 ∷ date 2199 12 31 ∷ []

unreal : List Date
unreal = date 1999 12 31 ∷ date 2200 1 1 ∷ date 2100 2 29 ∷ date 2023 2 29 ∷ date 2024 2 30 ∷ date 2023 4 31 ∷ date 2023 12 32 ∷ date 2023 0 1 ∷ date 2023 13 1 ∷ date 2023 1 0 ∷ []

real_agree : map is_real_date real ≡ map (λ d. true) real
unfolding real weekday date
real_agree = refl

unreal_agree : map is_real_date unreal ≡ map (λ d. false) unreal
unfolding unreal weekday date
unreal_agree = refl

-- ── texts ────────────────────────────────────────────────────────────────────────
-- where this is unfolded, a text is read
place : Bytes → ℕ
unfolding weekday is_window Lists.all Lists.all_but_last Lists.last_or Lists.first_no_from
    Bytes.extend Bytes.split Bytes.is_figure Bytes.read_on Bytes.read_figure Expressions.each
    Form.fields_of Form.next_field_lem Form.none_left_lem Form.one_piece_lem Questions.closed_lines Questions.unclosed Questions.is_closed
    Read.read_date Read.read_window Read.schedule_of Read.read_schedule Read.line_answers Read.place19
place text = place19 text

-- a text and the first line where the answer is no, 0 for none
record Asked : Type 0 where
  pub text : Bytes
  pub place : ℕ

infix 70 ◌fails-at◌
◌fails-at◌ : String → ℕ → Asked
◌fails-at◌ text place = record { text = bytes_of text; place = place }

texts : List Asked
texts =
    -- a date alone, and windows at their limits
    "2024\t4\t1\n" fails-at 0
    ∷ "2024\t4\t1\n0\t1\t0\t1\n15\t7\t0\t1440\n15\t7\t1439\t1440\n" fails-at 0
    -- a line feed closes each line, and the first line is there
    ∷ "" fails-at 1
    ∷ "\n" fails-at 1
    ∷ "2024\t4\t1" fails-at 1
    ∷ "2024\t4\t1\n0\t1\t0\t60" fails-at 2
    ∷ "2024\t4\t1\n\n" fails-at 2
    ∷ "\n2024\t4\t1\n" fails-at 1
    ∷ "0\t1\t0\t60\n" fails-at 1
    ∷ "2024\t4\t1\n2024\t4\t1\n" fails-at 2
    -- figures without leading zeros, parted by one tab, and no others
    ∷ "2024\t04\t1\n" fails-at 1
    ∷ "2024\t4\n" fails-at 1
    ∷ "2024\t4\t1\t1\n" fails-at 1
    ∷ "2024 4 1\n" fails-at 1
    ∷ "2024\t4\t1\r\n" fails-at 1
    ∷ "2024\t4\t1\n0\t1\t08\t60\n" fails-at 2
    ∷ "2024\t4\t1\n0\t1\t00\t60\n" fails-at 2
    ∷ "2024\t4\t1\n0\t1\t0\t60\t1\n" fails-at 2
    ∷ "2024\t4\t1\n0\t1\t0\t60\t\n" fails-at 2
    ∷ "2024\t4\t1\n0\t1\t0\n" fails-at 2
    ∷ "2024\t4\t1\n0\t1\t0 60\n" fails-at 2
    ∷ "2024\t4\t1\n0\t1\t\t60\n" fails-at 2
    ∷ "2024\t4\t1\n0\t1\t-1\t60\n" fails-at 2
    ∷ "2024\t4\t1\nI\t0\t1\t0\t60\n" fails-at 2
    -- a real date
    ∷ "2100\t2\t29\n" fails-at 1
    ∷ "2000\t2\t29\n" fails-at 0
    -- an input below 16, a weekday from 1 to 7, minutes to 1,440, the opening one below the closing one
    ∷ "2024\t4\t1\n16\t1\t0\t60\n" fails-at 2
    ∷ "2024\t4\t1\n18446744073709551616\t1\t0\t60\n" fails-at 2
    ∷ "2024\t4\t1\n0\t0\t0\t60\n" fails-at 2
    ∷ "2024\t4\t1\n0\t8\t0\t60\n" fails-at 2
    ∷ "2024\t4\t1\n0\t1\t60\t60\n" fails-at 2
    ∷ "2024\t4\t1\n0\t1\t61\t60\n" fails-at 2
    ∷ "2024\t4\t1\n0\t1\t0\t1441\n" fails-at 2
    -- the first line that fails
    ∷ "2024\t4\t1\n0\t1\t0\t60\n0\t1\t60\t60\n0\t8\t0\t60\n" fails-at 3
    ∷ "2024\t4\t1\n0\t1\t0\t60\n0\t1\t60\t60\n0\t8\t0\t60" fails-at 3
    ∷ []

texts_agree : map (λ a. place a.text) texts ≡ map (λ a. a.place) texts
unfolding texts ◌fails-at◌ bytes_of place
texts_agree = refl

-- a schedule of two lines, and its text
two_lines : Schedule
two_lines = record { date = date 2024 4 1; windows = record { input = 12; weekday = 7; opening = 0; closing = 1440 } ∷ [] }

two_lines_read : read_schedule (bytes_of "2024\t4\t1\n12\t7\t0\t1440\n") ≡ some two_lines
unfolding two_lines date bytes_of place
two_lines_read = refl

two_lines_written : schedule_text two_lines ≡ bytes_of "2024\t4\t1\n12\t7\t0\t1440\n"
unfolding two_lines date bytes_of windows_text write
two_lines_written = refl
