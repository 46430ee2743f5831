-- Edges by computation: schedules with the edges that document 02 gives them in narrow spans.
-- The definition walks each millisecond, so that a span here is a few of them long.
use mathlib.Core.Path.{◌≡◌, refl}
use mathlib.Core.List.{List, [], ◌∷◌, map}
use Prim.Native.Nat.{ℕ}
use Rattle.listing.specs.Lists.{total}
use Rattle.schedule.specs.Calendar.{Date, is_leap, month_lengths, year_days, days_of_years, days_of_months, day_number, weekday_after}
use Rattle.schedule.specs.Schedule.{Window, Schedule}
use Rattle.schedule.specs.Union.{any, lies, is_open}
use Rattle.schedule.specs.Edges.{Edge, change, changes, edges_at, edges_from, edges_in}

monday : Date
monday = record { year = 2024; month = 4; day = 1 }

saturday : Date
saturday = record { year = 2000; month = 1; day = 1 }

-- by input, weekday, opening and closing minute
window : ℕ → ℕ → ℕ → ℕ → Window
window input weekday opening closing = record { input = input; weekday = weekday; opening = opening; closing = closing }

record Span : Type 0 where
  pub from : ℕ
  pub end : ℕ
  pub held : List Edge

infix 70 ◌to◌holds◌
◌to◌holds◌ : ℕ → ℕ → List Edge → Span
◌to◌holds◌ from end held = record { from = from; end = end; held = held }

-- by moment and input
opens : ℕ → ℕ → Edge
opens moment input = record { moment = moment; input = input; value = 1 }

closes : ℕ → ℕ → Edge
closes moment input = record { moment = moment; input = input; value = 0 }

record Case : Type 0 where
  pub schedule : Schedule
  pub spans : List Span

at : Date → List Window → List Span → Case
at date windows spans = record { schedule = record { date = date; windows = windows }; spans = spans }

cases : List Case
cases =
    -- 2024-04-01 is a Monday: its window opens at 8:00 and closes at 9:00, on no other day, and again a week later, in the last week below 2 ^ 64 too;
    -- start included and end left out; nothing at the start of a span in which the window is open; none in a span that ends before it starts
    at monday (window 3 1 480 540 ∷ []) (
    28_799_999 to 28_800_002 holds (opens 28_800_000 3 ∷ [])
    ∷ 32_399_999 to 32_400_002 holds (closes 32_400_000 3 ∷ [])
    ∷ 115_199_999 to 115_200_001 holds []
    ∷ 633_599_999 to 633_600_001 holds (opens 633_600_000 3 ∷ [])
    ∷ 18_446_744_073_167_999_999 to 18_446_744_073_168_000_001 holds (opens 18_446_744_073_168_000_000 3 ∷ [])
    ∷ 28_800_000 to 28_800_001 holds (opens 28_800_000 3 ∷ [])
    ∷ 28_799_998 to 28_800_000 holds []
    ∷ 28_800_001 to 28_800_003 holds []
    ∷ 28_800_001 to 28_799_999 holds []
    ∷ [])
    -- 2000-01-01 is a Saturday: the Sunday after it
    ∷ at saturday (window 0 7 0 60 ∷ []) (86_399_999 to 86_400_001 holds (opens 86_400_000 0 ∷ []) ∷ [])
    -- nothing at moment 0, where a window is open or opens; it closes, and opens again
    ∷ at monday (window 0 1 0 60 ∷ []) (
    0 to 2 holds []
    ∷ 0 to 1 holds []
    ∷ 3_599_999 to 3_600_001 holds (closes 3_600_000 0 ∷ [])
    ∷ 604_799_999 to 604_800_001 holds (opens 604_800_000 0 ∷ [])
    ∷ [])
    -- minute 1,440 is the next day's midnight
    ∷ at monday (window 0 1 1380 1440 ∷ []) (86_399_999 to 86_400_002 holds (closes 86_400_000 0 ∷ []) ∷ [])
    -- windows that touch over Sunday midnight are one
    ∷ at monday (window 0 7 1380 1440 ∷ window 0 1 0 60 ∷ []) (
    601_199_999 to 601_200_001 holds (opens 601_200_000 0 ∷ [])
    ∷ 604_799_999 to 604_800_002 holds []
    ∷ 608_399_999 to 608_400_001 holds (closes 608_400_000 0 ∷ [])
    ∷ [])
    -- and over two midnights, in any order of the lines
    ∷ at monday (window 0 2 0 1440 ∷ window 0 3 0 60 ∷ window 0 1 1380 1440 ∷ []) (
    86_399_999 to 86_400_001 holds []
    ∷ 172_799_999 to 172_800_001 holds []
    ∷ 176_399_999 to 176_400_001 holds (closes 176_400_000 0 ∷ [])
    ∷ [])
    -- windows of two inputs are not
    ∷ at monday (window 1 7 1380 1440 ∷ window 0 1 0 60 ∷ []) (604_799_999 to 604_800_001 holds (opens 604_800_000 0 ∷ closes 604_800_000 1 ∷ []) ∷ [])
    -- windows inside, next to and across others
    ∷ at monday (window 1 1 60 120 ∷ window 1 1 100 110 ∷ window 1 1 120 130 ∷ window 1 1 125 135 ∷ []) (
    5_999_999 to 6_000_001 holds []
    ∷ 6_599_999 to 6_600_001 holds []
    ∷ 7_199_999 to 7_200_001 holds []
    ∷ 7_499_999 to 7_500_001 holds []
    ∷ 7_799_999 to 7_800_001 holds []
    ∷ 8_099_999 to 8_100_001 holds (closes 8_100_000 1 ∷ [])
    ∷ [])
    -- in one moment by input, whichever opens and whichever line comes first
    ∷ at monday (window 5 1 60 120 ∷ window 2 1 0 60 ∷ window 15 1 60 61 ∷ []) (3_599_999 to 3_600_001 holds (closes 3_600_000 2 ∷ opens 3_600_000 5 ∷ opens 3_600_000 15 ∷ []) ∷ [])
    ∷ at monday (window 2 1 60 120 ∷ window 5 1 0 60 ∷ []) (3_599_999 to 3_600_001 holds (opens 3_600_000 2 ∷ closes 3_600_000 5 ∷ []) ∷ [])
    -- a week that is open throughout
    ∷ at monday (window 9 1 0 1440 ∷ window 9 2 0 1440 ∷ window 9 3 0 1440 ∷ window 9 4 0 1440 ∷ window 9 5 0 1440 ∷ window 9 6 0 1440 ∷ window 9 7 0 1440 ∷ []) (
    0 to 2 holds []
    ∷ 86_399_999 to 86_400_001 holds []
    ∷ 604_799_999 to 604_800_001 holds []
    ∷ [])
    -- no windows
    ∷ at monday [] (86_399_999 to 86_400_001 holds [] ∷ [])
    ∷ []

found : Case → List (List Edge)
found c = map (λ span. edges_in c.schedule span.from span.end) c.spans

stated : Case → List (List Edge)
stated c = map (λ span. span.held) c.spans

edges_agree : map found cases ≡ map stated cases
unfolding monday saturday window ◌to◌holds◌ opens closes at cases found stated
    total is_leap month_lengths year_days days_of_years days_of_months day_number weekday_after any lies is_open change changes edges_at edges_from edges_in
edges_agree = refl
