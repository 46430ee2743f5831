-- `explain_trace::form::is_letter_field` meets its contract.
use mathlib.Core.Path.{ap, ◌∙◌}
use Rattle.std.proofs.Common.{rules}
use borrow.Author.Tests.{eq-eqb, ne_eqb}
use Rattle.explain_trace.specs.Forms.{is_letter_field, fields_after}
use Rattle.explain_trace.proofs.form.is_letter_field.Goals as goal

pub returns-then-field-eq1 : goal.returns-then-field-eq1
unfolding is_letter_field
returns-then-field-eq1 c = rw (eq-eqb _ 1 c.if-field-eq1.true, ← c.fields_after.ensures ∙ ap fields_after c.first_byte.ensures) (search rules)

pub returns : goal.returns
unfolding is_letter_field
returns c = rw (ne_eqb _ 1 c.if-field-eq1.false)
