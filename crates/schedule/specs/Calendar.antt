-- Dates, and the weekday of a day: days are counted from one known day, by the leap rule.
-- Document 02, Change 5: "the Gregorian date (year 2000 to 2199, month, day) on which moment 0 is midnight", "weekday 1 (Monday) to 7".
use Rattle.std.specs.Prelude.{Bool, cond, ◌&&◌, ◌||◌, not, List, [], ◌∷◌, ℕ, zero, suc, ◌+◌, ◌-◌, ◌%◌, eqb, leb, get_or, take}
use Rattle.listing.specs.Lists.{total}
use Rattle.schedule.specs.declared.Date as Declared

-- year, month and day
abbrev pub Date : Type 0
Date = Declared.Date

-- the leap rule: every fourth year has a day more, but of the years that end a century only every fourth (2000 and not 2100)
unfoldable pub is_leap : ℕ → Bool
is_leap year = eqb (year % 4) 0 && (not (eqb (year % 100) 0) || eqb (year % 400) 0)

-- the days of each month, in a leap year or in another
unfoldable pub month_lengths : Bool → List ℕ
month_lengths leap = 31 ∷ cond leap 29 28 ∷ 31 ∷ 30 ∷ 31 ∷ 30 ∷ 31 ∷ 31 ∷ 30 ∷ 31 ∷ 30 ∷ 31 ∷ []

-- the days of a month, from 1 for January
unfoldable pub month_days : ℕ → ℕ → ℕ
month_days year month = get_or (month_lengths (is_leap year)) (month - 1) 0

unfoldable pub year_days : ℕ → ℕ
year_days year = cond (is_leap year) 366 365

-- "a real date", "year 2000 to 2199"
unfoldable pub is_real_date : Date → Bool
is_real_date date =
    (leb 2000 date.year && leb date.year 2199)
    && ((leb 1 date.month && leb date.month 12)
    && (leb 1 date.day && leb date.day (month_days date.year date.month)))

-- the days of so many years from 2000 on
unfoldable pub days_of_years : ℕ → ℕ
days_of_years zero = 0
days_of_years (suc years) = days_of_years years + year_days (2000 + years)

-- the days of the first so many months of a year
unfoldable pub days_of_months : ℕ → ℕ → ℕ
days_of_months year months = total (take months (month_lengths (is_leap year)))

-- the days from 1 January 2000 to a date
unfoldable pub day_number : Date → ℕ
day_number date = days_of_years (date.year - 2000) + days_of_months date.year (date.month - 1) + (date.day - 1)

-- The weekday so many days after a date, 1 for Monday to 7 for Sunday: 1 January 2000 was a Saturday, 6.
unfoldable pub weekday_after : Date → ℕ → ℕ
weekday_after date days = 1 + (5 + day_number date + days) % 7
