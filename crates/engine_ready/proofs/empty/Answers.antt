-- `engine_ready::empty` meets its contract.
use mathlib.Core.Path.{refl}
use Rattle.engine_ready.specs.Slots.{falling, slots_of}
use Rattle.engine_ready.proofs.empty.Goals as goal

-- `engine_ready::empty` meets its contract.
pub returns : goal.returns
unfolding slots_of falling
returns c = (refl, refl)
