-- `explain_trace_said::asked::is_asked` meets its contract.
use mathlib.Core.Path.{sym, ◌∙◌}
use borrow.Author.Tests.{ne_eqb}
use Rattle.explain_trace_said.specs.Asked.{asks}
use Rattle.explain_trace_said.proofs.asked.is_asked.Goals as goal

pub returns-in-14 : goal.returns-in-14
unfolding asks
returns-in-14 c = rw (c.in-14.is, c.first_byte-letter.ensures)

pub returns-in-15 : goal.returns-in-15
unfolding asks
returns-in-15 c = rw (c.in-15.is, c.first_byte-letter.ensures)

pub returns-in-16 : goal.returns-in-16
unfolding asks
returns-in-16 c = rw (c.in-16.is, c.first_byte-letter.ensures)

pub returns-in-17 : goal.returns-in-17
unfolding asks
returns-in-17 c = rw (c.in-17.is, c.first_byte-letter.ensures)

pub returns-then-with_expression : goal.returns-then-with_expression
unfolding asks
returns-then-with_expression c =
    let e = c.with_expression.ensures in
    rw (c.in-18.is, ← c.first_byte-letter.ensures, sym e ∙ c.if-with_expression.true) c.line_divides.ensures

pub returns-else-with_expression : goal.returns-else-with_expression
unfolding asks
returns-else-with_expression c =
    let e = c.with_expression.ensures in
    rw (c.in-18.is, ← c.first_byte-letter.ensures, sym e ∙ c.if-with_expression.false) c.if-with_expression.false

pub returns-in_default : goal.returns-in_default
unfolding asks
returns-in_default c =
    let r = c.in_default.in_default-own.rest in
    rw (ne_eqb _ 14 r.0.0.0.0.1, ne_eqb _ 15 r.0.0.0.1, ne_eqb _ 16 r.0.0.1, ne_eqb _ 17 r.0.1, ne_eqb _ 18 r.1)
