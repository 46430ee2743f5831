-- The days of months and years, one more at a time, and what it says that a date is real.
use mathlib.Core.Path.{◌≡◌, refl, ap}
use mathlib.Core.Bool.{Bool, true, false, ◌&&◌}
use mathlib.Core.List.{List, [], ◌∷◌}
use Prim.Native.Nat.{ℕ, zero, suc, ◌+◌, ◌-◌, ◌≤◌}
use native.Mathlib.Omega.{arith}
use lib.Dec.{leb}
use lib.ListN.{get_or, take}
use borrow.Author.Tests.{leb-true}
use Rattle.listing.specs.Lists.{all, total}
use Rattle.listing.proofs.Tests.{and_left, and_right, all_head, all_tail}
use Rattle.schedule.specs.Calendar.{is_leap, month_lengths, month_days, year_days, is_real_date, days_of_years, days_of_months}

at_most : (n : ℕ) (ns : List ℕ) (i : ℕ) → all (λ x. leb x n) ns ≡ true → get_or ns i 0 ≤ n
at_most n [] i h = omega arith
at_most n (x ∷ ns) zero h = leb-true x n (all_head (λ x. leb x n) x ns h)
at_most n (x ∷ ns) (suc i) h = at_most n ns i (all_tail (λ x. leb x n) x ns h)

-- no month has more than 31 days
pub short_month : (leap : Bool) (i : ℕ) → get_or (month_lengths leap) i 0 ≤ 31
unfolding month_lengths all
short_month true i = at_most 31 (month_lengths true) i refl
short_month false i = at_most 31 (month_lengths false) i refl

one_more : (ns : List ℕ) (k : ℕ) → total (take (suc k) ns) ≡ total (take k ns) + get_or ns k 0
unfolding total
one_more [] zero = refl
one_more [] (suc k) = refl
one_more (n ∷ ns) zero = omega arith
one_more (n ∷ ns) (suc k) = omega (arith, one_more ns k)

pub month_passed : (year month : ℕ) → 1 ≤ month → days_of_months year (month + 1 - 1) ≡ days_of_months year (month - 1) + month_days year month
unfolding days_of_months month_days
month_passed year month h =
    let next : month + 1 - 1 ≡ suc (month - 1) = omega arith in
    rw next (one_more (month_lengths (is_leap year)) (month - 1))

pub year_passed : (year : ℕ) → 2000 ≤ year → days_of_years (year + 1 - 2000) ≡ days_of_years (year - 2000) + year_days year
unfolding days_of_years
year_passed year h =
    let next : year + 1 - 2000 ≡ suc (year - 2000) = omega arith in
    let same : 2000 + (year - 2000) ≡ year = omega arith in
    rw next (ap (λ (y : ℕ). days_of_years (year - 2000) + year_days y) same)

-- the numbers of a real date
pub record RealDate (year month day : ℕ) : Type 0 where
  pub year_from : 2000 ≤ year
  pub year_to : year ≤ 2199
  pub month_from : 1 ≤ month
  pub month_to : month ≤ 12
  pub day_from : 1 ≤ day
  pub day_to : day ≤ month_days year month
  pub day_small : day ≤ 31

pub real_date : (year month day : ℕ) → is_real_date (record { year = year; month = month; day = day }) ≡ true → RealDate year month day
unfolding is_real_date month_days
real_date year month day h =
    let years = leb 2000 year && leb year 2199 in
    let months = leb 1 month && leb month 12 in
    let days = leb 1 day && leb day (month_days year month) in
    let y = and_left years (months && days) h in
    let rest = and_right years (months && days) h in
    let m = and_left months days rest in
    let d = and_right months days rest in
    let most = leb-true day (month_days year month) (and_right (leb 1 day) (leb day (month_days year month)) d) in
    record {
      year_from = leb-true 2000 year (and_left (leb 2000 year) (leb year 2199) y);
      year_to = leb-true year 2199 (and_right (leb 2000 year) (leb year 2199) y);
      month_from = leb-true 1 month (and_left (leb 1 month) (leb month 12) m);
      month_to = leb-true month 12 (and_right (leb 1 month) (leb month 12) m);
      day_from = leb-true 1 day (and_left (leb 1 day) (leb day (month_days year month)) d);
      day_to = most;
      day_small = omega (arith, most, short_month (is_leap year) (month - 1));
    }
