-- `explain_trace::form::letter_why` meets its contract.
use mathlib.Core.Path.{sym, ap, ◌∙◌}
use Rattle.std.specs.Prelude.{Option, Some}
use Rattle.explain_fields.specs.declared.reasons.Strange.{Strange}
use Rattle.explain_trace.specs.declared.reasons.Reason.TheVariants as WV
use Rattle.explain_trace.specs.Forms.{letter_why, strange_or}
use Rattle.explain_trace.proofs.form.letter_why.Goals as goal

pub returns-then-is_letter_field : goal.returns-then-is_letter_field
unfolding letter_why
returns-then-is_letter_field c = rw (sym c.is_letter_field.ensures ∙ c.if-is_letter_field.true)

pub returns-in-Some : goal.returns-in-Some
unfolding letter_why
returns-in-Some c = rw (sym c.is_letter_field.ensures ∙ c.if-is_letter_field.false) (ap (λ (o : Option Strange). Some (strange_or WV.NoSuchLetter o)) c.in-Some.ensures)

pub returns-in-None : goal.returns-in-None
unfolding letter_why
returns-in-None c = rw (sym c.is_letter_field.ensures ∙ c.if-is_letter_field.false) (ap (λ (o : Option Strange). Some (strange_or WV.NoSuchLetter o)) c.in-None.ensures)
