-- The search for the lowest free slot, one slot up.
use mathlib.Core.Path.{◌≡◌, ap, ◌∙◌}
use mathlib.Core.Bool.{true, false}
use Prim.Native.Nat.{ℕ, suc, ◌-◌, ◌<◌}
use native.Mathlib.Omega.{arith}
use Rattle.engine_rows.specs.Rows.{Rows}
use Rattle.engine_rows.specs.Engine.{free_else, free_slot}

module _ (rows : Rows) (n : ℕ) (h : n < 64) where
  here : 63 - (63 - n) ≡ n
  here = omega arith

  left : 64 - n ≡ suc (63 - n)
  left = omega arith

  pub free_slot_found : (rows n).used ≡ false → free_slot rows (64 - n) ≡ n
  unfolding free_slot free_else
  free_slot_found e = ap (free_slot rows) left ∙ rw (here, e)

  pub free_slot_higher : (rows n).used ≡ true → free_slot rows (64 - n) ≡ free_slot rows (63 - n)
  unfolding free_slot free_else
  free_slot_higher e = ap (free_slot rows) left ∙ rw (here, e)
