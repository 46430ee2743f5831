-- `explain_lines::letter::letter_why` meets its contract.
use mathlib.Core.Path.{sym, ap, ◌∙◌}
use Rattle.std.specs.Prelude.{Option, Some}
use Rattle.explain_fields.specs.Pieces.{strange_or}
use Rattle.explain_fields.specs.declared.reasons.Strange.{Strange}
use Rattle.explain_fields.specs.declared.reasons.Reason.TheVariants as WV
use Rattle.explain_lines.specs.Letters.{letter_why}
use Rattle.explain_lines.proofs.letter.letter_why.Goals as goal

pub returns-then-is_letter_field : goal.returns-then-is_letter_field
unfolding letter_why
returns-then-is_letter_field c = rw (sym c.is_letter_field.ensures ∙ c.if-is_letter_field.true)

pub returns-in-Some : goal.returns-in-Some
unfolding letter_why
returns-in-Some c = rw (sym c.is_letter_field.ensures ∙ c.if-is_letter_field.false) (ap (λ (o : Option Strange). Some (strange_or WV.NoSuchLetter o)) c.in-Some.ensures)

pub returns-in-None : goal.returns-in-None
unfolding letter_why
returns-in-None c = rw (sym c.is_letter_field.ensures ∙ c.if-is_letter_field.false) (ap (λ (o : Option Strange). Some (strange_or WV.NoSuchLetter o)) c.in-None.ensures)
