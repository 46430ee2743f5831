-- `product` meets its contract: `*` by its number, else `<`.
use mathlib.Core.Path.{◌≡◌, sym, ap}
use mathlib.Core.Option.{some}
use native.Mathlib.Omega.{arith}
use Rattle.engine_values.specs.Values.{sign_of}
use Rattle.engine_values.proofs.product.Goals as goal

pub returns-in-5 : goal.returns-in-5
unfolding sign_of
returns-in-5 c = rw c.in-5.is (sym (ap some c.wrapping_multiply.ensures))

pub returns-in_default : goal.returns-in_default
unfolding sign_of
returns-in_default c =
    let other : c.args.kind ≡ 6 = omega (arith, c.in_default.in_default-own.rest, c.requires) in
    rw other (sym (ap some c.signed_less.ensures))
