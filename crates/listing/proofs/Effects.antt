-- The values held stay within their bound.
use mathlib.Core.Path.{◌≡◌}
use mathlib.Core.Bool.{true}
use Prim.Native.Nat.{ℕ, ◌≤◌}
use native.Mathlib.Omega.{arith}
use borrow.Author.Tests.{ltb-true}
use Rattle.listing.specs.Expressions.{most_values_held, Effect, adds, joins, may_come, held_with}

pub held_most : (held : ℕ) (e : Effect) → may_come held e ≡ true → held ≤ most_values_held → held_with held e ≤ most_values_held
unfolding may_come held_with
held_most held adds h most = omega (arith, ltb-true held most_values_held h)
held_most held joins h most = omega arith
