-- `refused` meets its contract.
use mathlib.Core.Path.{refl}
use Rattle.call_look.specs.Figures.{figures_of}
use Rattle.call_look.proofs.refused.Goals as goal

pub returns : goal.returns
unfolding figures_of
returns c = rw c.number.ensures refl
