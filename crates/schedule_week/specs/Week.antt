-- The minutes of a week from moment 0 on, each with a bit for every input that is open.
use Rattle.std.specs.Prelude.{◌≡◌, Bool, cond, ◌&&◌, List, ℕ, ◌+◌, ◌-◌, ◌*◌, ◌/◌, ◌%◌, ◌^◌, ◌<◌, eqb, leb, ltb, length, get_or}
use Rattle.std.specs.Int.Bits.{bit_or}
use Rattle.schedule.specs.Schedule.{Window}
use Rattle.schedule.specs.Union.{any}

abbrev pub week_minutes : ℕ
week_minutes = 10080

-- is the input's bit there?
abbrev pub is_marked : ℕ → ℕ → Bool
is_marked bits input = eqb (bits / 2 ^ input % 2) 1

-- an input marked from one minute up to another; the other minutes stay
pub record Marked (input from to : ℕ) (before after : List ℕ) : Type 0 where
  pub size : length after ≡ length before
  pub each : (minute : ℕ) → get_or after minute 0 ≡ cond (leb from minute && ltb minute to) (bit_or (get_or before minute 0) (1 * 2 ^ input)) (get_or before minute 0)

-- the minute of the week on which the day of a window begins, moment 0 falling on the weekday `first`
abbrev pub midnight_of : ℕ → Window → ℕ
midnight_of first w = (w.weekday + 7 - first) % 7 * 1440

-- the minutes of the week at which a window opens and closes
abbrev pub begin_of : ℕ → Window → ℕ
begin_of first w = midnight_of first w + w.opening

abbrev pub end_of : ℕ → Window → ℕ
end_of first w = midnight_of first w + w.closing

-- a minute of the week lies in one of an input's windows
unfoldable pub covers : ℕ → List Window → ℕ → ℕ → Bool
covers first windows input minute = any (λ w. eqb w.input input && (leb (begin_of first w) minute && ltb minute (end_of first w))) windows

-- the week of these windows
pub record WeekOf (first : ℕ) (windows : List Window) (week : List ℕ) : Type 0 where
  pub size : length week ≡ week_minutes
  pub bits : (input minute : ℕ) → minute < week_minutes → is_marked (get_or week minute 0) input ≡ covers first windows input minute
