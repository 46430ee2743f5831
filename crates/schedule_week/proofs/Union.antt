-- The week of a schedule's windows tells of every moment whether it lies in the union: the minute of the week decides. Letters: m a moment, q its
-- minute from moment 0 on, n the days from 1 January 2000 to the date and 5 more, w a window.
use mathlib.Core.Path.{◌≡◌, refl, sym, ap, ◌∙◌}
use mathlib.Core.Bool.{Bool, true, false, ◌&&◌}
use mathlib.Core.List.{List, [], ◌∷◌}
use Prim.Native.Nat.{ℕ, ◌+◌, ◌-◌, ◌*◌, ◌/◌, ◌%◌, ◌≤◌, ◌<◌}
use native.Mathlib.Omega.{arith}
use lib.Dec.{eqb, leb, ltb}
use borrow.Author.Tests.{eq-eqb, eqb-true, le-leb, leb-true, lt-ltb, ltb-true}
use Rattle.listing.specs.Lists.{all}
use Rattle.listing.proofs.Tests.{and_left, and_right}
use Rattle.schedule.specs.Calendar.{Date, day_number, weekday_after}
use Rattle.schedule.specs.Schedule.{Window, Schedule, is_window, IsSchedule}
use Rattle.schedule.specs.Union.{any, lies, is_open}
use Rattle.schedule_week.specs.Week.{begin_of, end_of, covers}
use Rattle.schedule_laws.proofs.Windows.{Numbers, window_numbers}

-- ── the arithmetic of weeks, days and minutes ─────────────────────────────────────────────────────
-- a day's weekday is the window's exactly if it lies as many days after the first one's, up to whole weeks
same_weekday : (n d v : ℕ) → 1 ≤ v → v ≤ 7 → v ≡ 1 + (n + d) % 7 → (v + 7 - (1 + n % 7)) % 7 ≡ d % 7
same_weekday n d v a b e = omega arith

weekday_same : (n d v : ℕ) → 1 ≤ v → v ≤ 7 → (v + 7 - (1 + n % 7)) % 7 ≡ d % 7 → v ≡ 1 + (n + d) % 7
weekday_same n d v a b e = omega arith

module _ (m : ℕ) where
  abbrev q : ℕ
  q = m / 60000

  day_is : m / 86400000 ≡ q / 1440
  day_is = omega arith

  minute_is : m % 86400000 / 60000 ≡ q % 1440
  minute_is = omega arith

  week_is : q % 10080 ≡ q / 1440 % 7 * 1440 + q % 1440
  week_is = omega arith

-- two tests that hold together
both_ways : (a b c d e : Bool) → (a ≡ true → b ≡ true → c ≡ true → (d ≡ true) × (e ≡ true)) → (d ≡ true → e ≡ true → (a ≡ true) × (b ≡ true) × (c ≡ true)) →
    (a && (b && c)) ≡ (d && e)
both_ways true true true d e f g = let r = f refl refl refl in rw (r.0, r.1)
both_ways true true false true true f g = (g refl refl).2
both_ways true true false true false f g = refl
both_ways true true false false e f g = refl
both_ways true false c true true f g = (g refl refl).1
both_ways true false c true false f g = refl
both_ways true false c false e f g = refl
both_ways false b c true true f g = (g refl refl).0
both_ways false b c true false f g = refl
both_ways false b c false e f g = refl

-- ── a window, and all of them ─────────────────────────────────────────────────────────────────────
module _ (n m : ℕ) (w : Window) (h : Numbers w) where
  abbrev first : ℕ
  first = 1 + n % 7

  abbrev minute : ℕ
  minute = m / 60000 % 10080

  inside : w.weekday ≡ 1 + (n + m / 86400000) % 7 → w.opening * 60000 ≤ m % 86400000 → m % 86400000 < w.closing * 60000 →
      (begin_of first w ≤ minute) × (minute < end_of first w)
  inside a b c =
      let day = same_weekday n (m / 86400000) w.weekday h.weekday_low h.weekday_high a in
      let low : w.opening ≤ m / 60000 % 1440 = omega (arith, minute_is m) in
      let high : m / 60000 % 1440 < w.closing = omega (arith, minute_is m) in
      let e : (w.weekday + 7 - first) % 7 ≡ m / 60000 / 1440 % 7 = day ∙ ap (λ (d : ℕ). d % 7) (day_is m) in
      rw (week_is m, e) (omega arith, omega arith)

  inside_back : begin_of first w ≤ minute → minute < end_of first w →
      (w.weekday ≡ 1 + (n + m / 86400000) % 7) × (w.opening * 60000 ≤ m % 86400000) × (m % 86400000 < w.closing * 60000)
  inside_back a b =
      let l : (w.weekday + 7 - first) % 7 * 1440 + w.opening ≤ m / 60000 / 1440 % 7 * 1440 + m / 60000 % 1440 = rw (week_is m) at a in
      let u : m / 60000 / 1440 % 7 * 1440 + m / 60000 % 1440 < (w.weekday + 7 - first) % 7 * 1440 + w.closing = rw (week_is m) at b in
      let c = h.closes_by in
      let e : (w.weekday + 7 - first) % 7 ≡ m / 60000 / 1440 % 7 = omega arith in
      let low : w.opening ≤ m / 60000 % 1440 = omega arith in
      let high : m / 60000 % 1440 < w.closing = omega arith in
      (weekday_same n (m / 86400000) w.weekday h.weekday_low h.weekday_high (e ∙ sym (ap (λ (d : ℕ). d % 7) (day_is m))), omega (arith, minute_is m), omega (arith, minute_is m))

  in_window : (eqb w.weekday (1 + (n + m / 86400000) % 7) && (leb (w.opening * 60000) (m % 86400000) && ltb (m % 86400000) (w.closing * 60000))) ≡
      (leb (begin_of first w) minute && ltb minute (end_of first w))
  in_window =
      both_ways _ _ _ _ _
      (λ a b c. let i = inside (eqb-true _ _ a) (leb-true _ _ b) (ltb-true _ _ c) in (le-leb _ _ i.0, lt-ltb _ _ i.1))
      (λ a b. let o = inside_back (leb-true _ _ a) (ltb-true _ _ b) in (eq-eqb _ _ o.0, le-leb _ _ o.1, lt-ltb _ _ o.2))

module _ (date : Date) (m k : ℕ) where
  lies_is : (w : Window) → is_window w ≡ true → lies date m w ≡ (leb (begin_of (weekday_after date 0) w) (m / 60000 % 10080) && ltb (m / 60000 % 10080) (end_of (weekday_after date 0) w))
  unfolding lies weekday_after
  lies_is w e =
      let sum : 5 + day_number date + m / 86400000 ≡ 5 + day_number date + 0 + m / 86400000 = omega arith in
      rw sum (in_window (5 + day_number date + 0) m w (window_numbers w e))

  open_is : (ws : List Window) → all is_window ws ≡ true →
      any (λ w. eqb w.input k && lies date m w) ws ≡ covers (weekday_after date 0) ws k (m / 60000 % 10080)
  unfolding any all covers
  open_is [] e = refl
  open_is (w ∷ ws) e =
      let rest = open_is ws (and_right (is_window w) _ e) in
      let here = lies_is w (and_left (is_window w) _ e) in
      rw (here, rest)

-- of every moment and input
pub union_is : (s : Schedule) → IsSchedule s → (k m : ℕ) → is_open s k m ≡ covers (weekday_after s.date 0) s.windows k (m / 60000 % 10080)
unfolding is_open
union_is s h k m = open_is s.date m k s.windows h.windows_are
