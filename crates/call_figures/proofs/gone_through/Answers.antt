-- `call_figures::gone_through` meets its contract.
use mathlib.Core.Path.{sym, ap}
use Rattle.call_figures.specs.Answers.{gone_through}
use Rattle.call_figures.proofs.gone_through.Goals as goal

pub returns-in-Never : goal.returns-in-Never
returns-in-Never c = let a = c.args.figures in ap (gone_through a.steps a.listed) (sym c.in-Never.is)

pub returns-in-At : goal.returns-in-At
returns-in-At c = let a = c.args.figures in ap (gone_through a.steps a.listed) (sym c.in-At.is)
