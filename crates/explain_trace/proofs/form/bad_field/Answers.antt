-- `explain_trace::form::bad_field` meets its contract.
use borrow.Author.Tests.{ne_eqb}
use Rattle.explain_trace.specs.Forms.{bad_field}
use Rattle.explain_trace.proofs.form.bad_field.Goals as goal

pub returns-in-1 : goal.returns-in-1
unfolding bad_field
returns-in-1 c = rw c.in-1.is

pub returns-in-2 : goal.returns-in-2
unfolding bad_field
returns-in-2 c = rw c.in-2.is

pub returns-in_default : goal.returns-in_default
unfolding bad_field
returns-in_default c =
    let r = c.in_default.in_default-own.rest in
    rw (ne_eqb _ 1 r.0.1, ne_eqb _ 2 r.1)
