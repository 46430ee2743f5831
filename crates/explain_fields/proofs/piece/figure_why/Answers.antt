-- `explain_fields::piece::figure_why` meets its contract.
use mathlib.Core.Path.{◌∙◌, sym, ap}
use Rattle.text_piece.specs.Pieces.{figure_answer}
use Rattle.explain_fields.proofs.Pieces.{whole, is_figure_lem, no_figure}
use Rattle.explain_fields.proofs.piece.figure_why.Goals as goal

pub returns-in-Value : goal.returns-in-Value
returns-in-Value c = is_figure_lem _ _ (sym c.in-Value.is ∙ c.figure_of-f.ensures ∙ ap figure_answer (whole _))

pub returns-in-Bad : goal.returns-in-Bad
returns-in-Bad c = no_figure _ _ (sym c.in-Bad.is ∙ c.figure_of-f.ensures ∙ ap figure_answer (whole _)) c.why_bad.ensures
