-- `quotient` meets its contract: none by 0, else `/` by its number or `%`.
use mathlib.Core.Path.{◌≡◌, sym, ap}
use mathlib.Core.Option.{some}
use native.Mathlib.Omega.{arith}
use borrow.Author.Tests.{ne_eqb}
use Rattle.engine_values.specs.Values.{found, sign_of, divided}
use Rattle.engine_values.proofs.Values.{by_zero}
use Rattle.engine_values.proofs.quotient.Goals as goal

pub returns-then-right-eq0 : goal.returns-then-right-eq0
unfolding found
returns-then-right-eq0 c =
    let a = c.args in
    let zero : a.right ≡ 0 = omega arith in
    rw zero (sym (by_zero a.kind a.left c.requires.0 c.requires.1))

pub returns-in-7 : goal.returns-in-7
unfolding found sign_of divided
returns-in-7 c = rw (c.in-7.is, ne_eqb _ 0 c.if-right-eq0.false) (ap some c.signed_quotient.ensures)

pub returns-in_default : goal.returns-in_default
unfolding found sign_of divided
returns-in_default c =
    let other : c.args.kind ≡ 8 = omega (arith, c.in_default.in_default-own.rest, c.requires) in
    rw (other, ne_eqb _ 0 c.if-right-eq0.false) (ap some c.signed_remainder.ensures)
