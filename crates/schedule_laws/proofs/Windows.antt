-- What it says that a window's numbers pass, and that a moment lies in a window.
-- w is a window, d a date, m a moment.
use mathlib.Core.Path.{◌≡◌}
use mathlib.Core.Bool.{true, ◌&&◌}
use Prim.Native.Nat.{ℕ, ◌*◌, ◌/◌, ◌%◌, ◌≤◌, ◌<◌}
use lib.Dec.{eqb, leb, ltb}
use borrow.Author.Tests.{eqb-true, leb-true, ltb-true}
use Rattle.listing.proofs.Tests.{and_left, and_right}
use Rattle.schedule.specs.Calendar.{Date, weekday_after}
use Rattle.schedule.specs.Schedule.{Window, is_window}
use Rattle.schedule.specs.Union.{day_length, minute_length, lies}

pub record Numbers (w : Window) : Type 0 where
  pub input_below : w.input < 16
  pub weekday_low : 1 ≤ w.weekday
  pub weekday_high : w.weekday ≤ 7
  pub opens_first : w.opening < w.closing
  pub closes_by : w.closing ≤ 1440

pub window_numbers : (w : Window) → is_window w ≡ true → Numbers w
unfolding is_window
window_numbers w h =
    let i = ltb w.input 16 in
    let low = leb 1 w.weekday in
    let high = leb w.weekday 7 in
    let before = ltb w.opening w.closing in
    let by = leb w.closing 1440 in
    let rest = and_right i ((low && high) && (before && by)) h in
    let weekday = and_left (low && high) (before && by) rest in
    let minutes = and_right (low && high) (before && by) rest in
    record {
      input_below = ltb-true w.input 16 (and_left i ((low && high) && (before && by)) h);
      weekday_low = leb-true 1 w.weekday (and_left low high weekday);
      weekday_high = leb-true w.weekday 7 (and_right low high weekday);
      opens_first = ltb-true w.opening w.closing (and_left before by minutes);
      closes_by = leb-true w.closing 1440 (and_right before by minutes);
    }

pub record Lies (d : Date) (m : ℕ) (w : Window) : Type 0 where
  pub on : w.weekday ≡ weekday_after d (m / day_length)
  pub from : w.opening * minute_length ≤ m % day_length
  pub before : m % day_length < w.closing * minute_length

pub lies_there : (d : Date) (m : ℕ) (w : Window) → lies d m w ≡ true → Lies d m w
unfolding lies
lies_there d m w h =
    let day = eqb w.weekday (weekday_after d (m / day_length)) in
    let low = leb (w.opening * minute_length) (m % day_length) in
    let high = ltb (m % day_length) (w.closing * minute_length) in
    let minutes = and_right day (low && high) h in
    record {
      on = eqb-true w.weekday (weekday_after d (m / day_length)) (and_left day (low && high) h);
      from = leb-true (w.opening * minute_length) (m % day_length) (and_left low high minutes);
      before = ltb-true (m % day_length) (w.closing * minute_length) (and_right low high minutes);
    }
