-- Tests that are true: both sides of a conjunction, and the refutation of `false ≡ true`. Letters: a and b are tests.
use mathlib.Core.Path.{◌≡◌, refl}
use mathlib.Core.Bool.{Bool, true, false, ◌&&◌}
use Prim.Native.Nat.{ℕ}
use native.Mathlib.Omega.{arith}

pub false_is_not_true : {A : Type 0} → false ≡ true → A
false_is_not_true e = absurd (let z : ◌≡◌ {A = ℕ} 0 1 = cc in let impossible : ⊥ = omega arith in impossible)

pub and_left : (a b : Bool) → a && b ≡ true → a ≡ true
and_left true b e = refl
and_left false b e = false_is_not_true e

pub and_right : (a b : Bool) → a && b ≡ true → b ≡ true
and_right true b e = e
and_right false b e = false_is_not_true e
