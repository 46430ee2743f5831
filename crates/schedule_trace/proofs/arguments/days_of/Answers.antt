-- `schedule_trace::days_of` meets its contract.
use mathlib.Core.Path.{sym, ◌∙◌}
use native.Mathlib.Omega.{arith}
use Rattle.schedule_trace.proofs.Days.{days_read, no_days}
use Rattle.schedule_trace.proofs.arguments.days_of.Goals as goal

pub returns-in-Value : goal.returns-in-Value
returns-in-Value c = days_read _ _ (sym c.in-Value.is ∙ c.figure_up_to.ensures)

pub returns-in-Bad : goal.returns-in-Bad
returns-in-Bad c = (no_days _ (sym c.in-Bad.is ∙ c.figure_up_to.ensures), omega arith)
