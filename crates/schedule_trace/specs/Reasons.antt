-- Why no trace is printed.
use Rattle.std.specs.Prelude.{cond, [], ◌++◌, ℕ, eqb}
use Rattle.listing.specs.Bytes.{Bytes, bytes_of, figure}

unfoldable pub too_long_lem : Bytes
too_long_lem = bytes_of "schedule_trace: the schedule has 262,144 bytes or more\n"

-- "A first line .. gives in three such fields the Gregorian date (year 2000 to 2199, month, day)"
unfoldable pub no_date : Bytes
no_date = bytes_of " is no date: year (2000 to 2199), month and day, parted by tabs, closed by a line feed (19)\n"

-- "input number, weekday 1 (Monday) to 7, opening and closing minute, 0 to 1,440 with opening below closing, parted by tabs"
unfoldable pub no_window : Bytes
no_window =
    bytes_of " is no window: input (0 to 15), weekday (1 to 7), opening and closing minute (0 to 1440, opening below closing), parted by tabs, closed by a line feed (19)\n"

unfoldable pub line_reason : ℕ → Bytes
line_reason line = bytes_of "schedule_trace: line " ++ (figure line ++ cond (eqb line 1) no_date no_window)

-- of so many bytes read, and of the first line where question 19 says no; nothing if a trace is printed
unfoldable pub why_none : ℕ → ℕ → Bytes
why_none read line = cond (eqb read 262144) too_long_lem (cond (eqb line 0) [] (line_reason line))
