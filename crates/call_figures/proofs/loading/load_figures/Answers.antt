-- `call_figures::load_figures` meets its contract.
use mathlib.Core.Path.{sym, ap}
use Rattle.call_figures.specs.Answers.{of_loaded}
use Rattle.call_figures.proofs.loading.load_figures.Goals as goal

pub returns-in-Done : goal.returns-in-Done
returns-in-Done c = ap of_loaded (sym c.in-Done.is)

pub returns-in-Refused : goal.returns-in-Refused
returns-in-Refused c = ap of_loaded (sym c.in-Refused.is)
