-- `explain_trace::form::fields_after` meets its contract.
use borrow.Author.Tests.{ne_eqb}
use Rattle.explain_trace.specs.Forms.{fields_after}
use Rattle.explain_trace.proofs.form.fields_after.Goals as goal

pub returns-in-73 : goal.returns-in-73
unfolding fields_after
returns-in-73 c = rw c.in-73.is

pub returns-in-81 : goal.returns-in-81
unfolding fields_after
returns-in-81 c = rw c.in-81.is

pub returns-in_default : goal.returns-in_default
unfolding fields_after
returns-in_default c =
    let r = c.in_default.in_default-own.rest in
    rw (ne_eqb _ 73 r.0.1, ne_eqb _ 81 r.1)
