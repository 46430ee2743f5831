-- `text_fields::figures_field` meets its contract.
use Rattle.std.proofs.Common.{sym, ap, ◌∙◌, Bool, cond, None, Some}
use Rattle.text_fields.specs.Gather.{figures_by}
use Rattle.text_fields.proofs.field.figures_field.Goals as goal

pub returns-in_err-field : goal.returns-in_err-field
returns-in_err-field c = c.from_residual.ensures ∙ ap figures_by (sym c.in_err-field.was ∙ c.pieces_field.ensures)

pub returns-then-field : goal.returns-then-field
returns-then-field c = ap (λ (t : Bool). cond t (Some c.in_ok-field.field) None) (sym c.if-field.true) ∙ ap figures_by (sym c.in_ok-field.was ∙ c.pieces_field.ensures)

pub returns : goal.returns
returns c = ap (λ (t : Bool). cond t (Some c.in_ok-field.field) None) (sym c.if-field.false) ∙ ap figures_by (sym c.in_ok-field.was ∙ c.pieces_field.ensures)
