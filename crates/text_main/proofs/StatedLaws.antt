-- Whether main is as stated, test by test.
use mathlib.Core.Path.{◌≡◌}
use mathlib.Core.Bool.{Bool, true, false}
use Prim.Native.Nat.{ℕ, ◌+◌, ◌-◌, ◌≤◌, ◌<◌}
use native.Mathlib.Omega.{arith}
use borrow.Author.Tests.{eq-eqb, ne_eqb}
use Rattle.text_main.specs.Stated.{is_stated}
use Rattle.text_main.specs.declared.main_routine.Here.{Here}

module _ (here : Here) (arguments : ℕ) (by_reference : Bool) (main : here.unopened ≡ true) where
  pub too_few : arguments < here.inputs → false ≡ is_stated here arguments by_reference
  too_few h = rw (main, ne_eqb arguments (here.inputs + here.outputs) (λ (e : arguments ≡ here.inputs + here.outputs). omega arith))

  pub as_many : here.inputs ≤ arguments → arguments - here.inputs ≡ here.outputs → by_reference ≡ is_stated here arguments by_reference
  as_many h e = rw (main, eq-eqb arguments (here.inputs + here.outputs) (omega arith))

  pub other_many : here.inputs ≤ arguments → (arguments - here.inputs ≡ here.outputs → ⊥) → false ≡ is_stated here arguments by_reference
  other_many h n = rw (main, ne_eqb arguments (here.inputs + here.outputs) (λ (e : arguments ≡ here.inputs + here.outputs). n (omega arith)))
