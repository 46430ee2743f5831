-- `explain_schedule::line::figure_value` meets its contract.
use mathlib.Core.Path.{sym, ap, ◌∙◌}
use Rattle.text_piece.specs.Pieces.{figure_answer}
use Rattle.explain_fields.proofs.Pieces.{whole}
use Rattle.explain_schedule.specs.Lines.{value_in}
use Rattle.explain_schedule.proofs.line.figure_value.Goals as goal

pub returns-in-Value : goal.returns-in-Value
returns-in-Value c = ap value_in (sym c.in-Value.is ∙ c.figure_of-f.ensures ∙ ap figure_answer (whole _))

pub returns-in-Bad : goal.returns-in-Bad
returns-in-Bad c = ap value_in (sym c.in-Bad.is ∙ c.figure_of-f.ensures ∙ ap figure_answer (whole _))
