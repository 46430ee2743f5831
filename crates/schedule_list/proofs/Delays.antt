-- A delay that stays below 2 to the 64 leads to a moment. Letters: p the present moment, d the delay.
use mathlib.Core.Path.{◌≡◌, sym, ◌∙◌}
use Prim.Native.Nat.{ℕ, ◌+◌, ◌<◌}
use native.Mathlib.Omega.{arith}
use Rattle.words.specs.Moments.{later_at, stops_with, later_moment}
use Rattle.words.proofs.Moments.{sum_below_is_later, later_moment_is_sum}

pub never_too_late : (p d : ℕ) → p + d < 18446744073709551616 → stops_with 17 ≡ later_moment p d → ⊥
never_too_late p d h e =
    let f : stops_with 17 ≡ later_at (p + d) = e ∙ sum_below_is_later p d h in
    let z : ◌≡◌ {A = ℕ} 0 1 = cc in omega arith

pub at_sum : (p d m : ℕ) → later_at m ≡ later_moment p d → m ≡ p + d
at_sum p d m e = (later_moment_is_sum p d m (sym e)).0
