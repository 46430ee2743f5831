-- The cases of a later moment: below 2 to the 64 it is the sum, which is then a moment, and otherwise there is none.
-- p is the present moment, d the delay.
use Rattle.std.proofs.Common.{◌≡◌, ℕ, ◌+◌, ◌<◌, ◌≤◌, Bool, true, false, cond, ltb, refl, arith, ltb-true, le-ltb, lt-ltb}
use Rattle.words.specs.Moments.{later_at, stops_with, later_moment}

module _ (p d : ℕ) where
  pub sum_below_is_later : p + d < 18446744073709551616 → later_moment p d ≡ later_at (p + d)
  sum_below_is_later h = rw (lt-ltb (p + d) 18446744073709551616 h)

  pub sum_reached_stops : 18446744073709551616 ≤ p + d → later_moment p d ≡ stops_with 17
  sum_reached_stops h = rw (le-ltb (p + d) 18446744073709551616 h)

  by_test :
      (t : Bool) → ltb (p + d) 18446744073709551616 ≡ t → (m : ℕ) → cond t (later_at (p + d)) (stops_with 17) ≡ later_at m
      → (m ≡ p + d) × (m < 18446744073709551616)
  by_test true e m h =
      let sum : m ≡ p + d = cc in
      let below : p + d < 18446744073709551616 = ltb-true _ _ e in
      (sum, omega arith)
  by_test false e m h = absurd (let z : ◌≡◌ {A = ℕ} 0 1 = cc in omega arith)

  pub later_moment_is_sum : (m : ℕ) → later_moment p d ≡ later_at m → (m ≡ p + d) × (m < 18446744073709551616)
  later_moment_is_sum m h = by_test (ltb (p + d) 18446744073709551616) refl m h
