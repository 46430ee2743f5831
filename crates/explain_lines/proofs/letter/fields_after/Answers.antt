-- `explain_lines::letter::fields_after` meets its contract.
use borrow.Author.Tests.{ne_eqb}
use Rattle.explain_lines.specs.Letters.{fields_after}
use Rattle.explain_lines.proofs.letter.fields_after.Goals as goal

pub returns-in-80 : goal.returns-in-80
unfolding fields_after
returns-in-80 c = rw c.in-80.is

pub returns-in-82 : goal.returns-in-82
unfolding fields_after
returns-in-82 c = rw c.in-82.is

pub returns-in-83 : goal.returns-in-83
unfolding fields_after
returns-in-83 c = rw c.in-83.is

pub returns-in-65 : goal.returns-in-65
unfolding fields_after
returns-in-65 c = rw c.in-65.is

pub returns-in-85 : goal.returns-in-85
unfolding fields_after
returns-in-85 c = rw c.in-85.is

pub returns-in-71 : goal.returns-in-71
unfolding fields_after
returns-in-71 c = rw c.in-71.is

pub returns-in-87 : goal.returns-in-87
unfolding fields_after
returns-in-87 c = rw c.in-87.is

pub returns-in-70 : goal.returns-in-70
unfolding fields_after
returns-in-70 c = rw c.in-70.is

pub returns-in-69 : goal.returns-in-69
unfolding fields_after
returns-in-69 c = rw c.in-69.is

pub returns-in_default : goal.returns-in_default
unfolding fields_after
returns-in_default c =
    let r = c.in_default.in_default-own.rest in
    rw (ne_eqb _ 80 r.0.0.0.0.0.0.0.0.1, ne_eqb _ 82 r.0.0.0.0.0.0.0.1, ne_eqb _ 83 r.0.0.0.0.0.0.1, ne_eqb _ 65 r.0.0.0.0.0.1, ne_eqb _ 85 r.0.0.0.0.1, ne_eqb _ 71 r.0.0.0.1, ne_eqb _ 87 r.0.0.1, ne_eqb _ 70 r.0.1, ne_eqb _ 69 r.1)
