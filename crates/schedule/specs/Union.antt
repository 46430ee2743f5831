-- When a moment lies in the union of an input's windows, from the schedule's lines.
-- Document 02, Change 5: "the Gregorian date .. on which moment 0 is midnight; a day has 86,400,000 milliseconds"; "Windows of one input that touch or
-- overlap act as their union, also over midnight"; "lies in the union (windows without their closing minute)".
use Rattle.std.specs.Prelude.{Bool, false, ◌&&◌, ◌||◌, List, [], ◌∷◌, ℕ, ◌*◌, ◌/◌, ◌%◌, eqb, leb, ltb}
use Rattle.schedule.specs.Calendar.{Date, weekday_after}
use Rattle.schedule.specs.Schedule.{Window, Schedule}

-- "a day has 86,400,000 milliseconds"
abbrev pub day_length : ℕ
day_length = 86400000

abbrev pub minute_length : ℕ
minute_length = 60000

-- some element passes the test
unfoldable pub any : {A : Type 0} → (A → Bool) → List A → Bool
any test [] = false
any test (x ∷ xs) = test x || any test xs

-- the moment lies in this window: on its weekday, from its opening minute on and before its closing minute
unfoldable pub lies : Date → ℕ → Window → Bool
lies date moment w =
    eqb w.weekday (weekday_after date (moment / day_length))
    && (leb (w.opening * minute_length) (moment % day_length) && ltb (moment % day_length) (w.closing * minute_length))

-- the moment lies in the union of an input's windows
unfoldable pub is_open : Schedule → ℕ → ℕ → Bool
is_open s input moment = any (λ w. eqb w.input input && lies s.date moment w) s.windows
