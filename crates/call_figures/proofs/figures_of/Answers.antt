-- `call_figures::figures_of` meets its contract.
use mathlib.Core.Path.{sym, ap, ◌∙◌}
use Rattle.call_figures.specs.Answers.{turned_away, of_answer}
use Rattle.call_figures.proofs.figures_of.Goals as goal

pub returns-in-Ok : goal.returns-in-Ok
returns-in-Ok c = c.gone_through.ensures ∙ ap of_answer (sym c.in-Ok.is)

pub returns-in-Err : goal.returns-in-Err
returns-in-Err c = c.turned_away.ensures ∙ (ap turned_away c.number.ensures ∙ ap of_answer (sym c.in-Err.is))
