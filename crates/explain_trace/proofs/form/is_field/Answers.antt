-- `explain_trace::form::is_field` meets its contract.
use borrow.Author.Tests.{ne_eqb}
use Rattle.explain_trace.specs.Forms.{reads_field}
use Rattle.explain_trace.proofs.form.is_field.Goals as goal

pub returns-in-1 : goal.returns-in-1
unfolding reads_field
returns-in-1 c = rw c.in-1.is c.is_figure.ensures

pub returns-in-2 : goal.returns-in-2
unfolding reads_field
returns-in-2 c = rw c.in-2.is c.is_figure-in-2.ensures

pub returns-in_default : goal.returns-in_default
unfolding reads_field
returns-in_default c =
    let r = c.in_default.in_default-own.rest in
    rw (ne_eqb _ 1 r.0.1, ne_eqb _ 2 r.1) c.is_value.ensures
