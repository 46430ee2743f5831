-- `explain_trace_said::asked::with_expression` meets its contract.
use borrow.Author.Tests.{ne_eqb}
use Rattle.explain_trace_said.specs.Asked.{with_expression}
use Rattle.explain_trace_said.proofs.asked.with_expression.Goals as goal

pub returns-in-83 : goal.returns-in-83
unfolding with_expression
returns-in-83 c = rw c.in-83.is

pub returns-in-85 : goal.returns-in-85
unfolding with_expression
returns-in-85 c = rw c.in-85.is

pub returns-in-65 : goal.returns-in-65
unfolding with_expression
returns-in-65 c = rw c.in-65.is

pub returns-in_default : goal.returns-in_default
unfolding with_expression
returns-in_default c =
    let r = c.in_default.in_default-own.rest in
    rw (ne_eqb _ 83 r.0.0.1, ne_eqb _ 85 r.0.1, ne_eqb _ 65 r.1)
