-- A word read as yes or no.
use mathlib.Core.Bool.{not}
use mathlib.Core.Path.{◌≡◌, refl}
use Prim.Native.Nat.{ℕ, zero, suc}
use native.Mathlib.Omega.{arith}
use lib.Dec.{eqb}
use borrow.Author.Tests.{ne_eqb}
use Rattle.engine_blocks.specs.Blocks.{nonzero}

pub nonzero_test : (n : ℕ) → not (eqb n 0) ≡ nonzero n
unfolding nonzero
nonzero_test zero = refl
nonzero_test (suc n) = rw (ne_eqb (suc n) 0 (λ e. omega arith))
