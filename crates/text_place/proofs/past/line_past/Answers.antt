-- `text_place::line_past` meets its contract.
use mathlib.Core.Path.{sym, ◌∙◌}
use native.Mathlib.Omega.{arith}
use borrow.Author.Tests.{ne_eqb}
use Rattle.text_place.proofs.Passing.{closing_passed}
use Rattle.text_place.proofs.past.line_past.Goals as goal

pub overflow_add-result : goal.overflow_add-result
overflow_add-result c =
    let a = c.args in
    omega (arith, closing_passed a.s.now a.from a.past 10 (omega arith) (sym c.closing_byte.ensures ∙ c.if-closing_byte-eq10.true))

pub returns-then-closing_byte-eq10 : goal.returns-then-closing_byte-eq10
returns-then-closing_byte-eq10 c = rw (← c.closing_byte.ensures, c.if-closing_byte-eq10.true)

pub returns : goal.returns
returns c = rw (← c.closing_byte.ensures, ne_eqb _ 10 c.if-closing_byte-eq10.false)
