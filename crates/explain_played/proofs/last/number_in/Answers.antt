-- `explain_played::last::number_in` meets its contract.
use mathlib.Core.Path.{sym, ap, ◌∙◌}
use Rattle.session_trace_lines.specs.Figures.{below_answer}
use Rattle.session_trace_lines.proofs.Bounds.{below_fits}
use Rattle.explain_fields.proofs.Pieces.{whole}
use Rattle.explain_played.specs.Endings.{number_in}
use Rattle.explain_played.proofs.last.number_in.Goals as goal

pub overflow_cast-result : goal.overflow_cast-result
overflow_cast-result c = record { fits = below_fits 4294967296 _ _ (sym c.in-Value.is ∙ c.figure_up_to-read.ensures) }

pub returns-in-Value : goal.returns-in-Value
returns-in-Value c = ap number_in (sym c.in-Value.is ∙ c.figure_up_to-read.ensures ∙ ap (below_answer 4294967296) (whole c.args.piece.now))

pub returns-in-Bad : goal.returns-in-Bad
returns-in-Bad c = ap number_in (sym c.in-Bad.is ∙ c.figure_up_to-read.ensures ∙ ap (below_answer 4294967296) (whole c.args.piece.now))
