-- `sum` meets its contract: `+` by its number, else `-`.
use mathlib.Core.Path.{◌≡◌, sym, ap}
use mathlib.Core.Option.{some}
use native.Mathlib.Omega.{arith}
use Rattle.engine_values.specs.Values.{sign_of}
use Rattle.engine_values.proofs.sum.Goals as goal

pub returns-in-3 : goal.returns-in-3
unfolding sign_of
returns-in-3 c = rw c.in-3.is (sym (ap some c.wrapping_add.ensures))

pub returns-in_default : goal.returns-in_default
unfolding sign_of
returns-in_default c =
    let other : c.args.kind ≡ 4 = omega (arith, c.in_default.in_default-own.rest, c.requires) in
    rw other (sym (ap some c.wrapping_subtract.ensures))
