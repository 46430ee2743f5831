use Rattle.std.proofs.Common.{arith}
use Rattle.std.proofs.lemmas.Grind.{common_steps}
use Rattle.test_lending.specs.Places.{spoilt_first}
use Rattle.test_lending.proofs.places.spoil_first.Goals as goal

pub returns-in_default : goal.returns-in_default
unfolding spoilt_first
returns-in_default c = grind (arith, common_steps)

pub returns-then-spoil-which : goal.returns-then-spoil-which
unfolding spoilt_first
returns-then-spoil-which c = grind (arith, common_steps)

pub returns-else-spoil-which : goal.returns-else-spoil-which
unfolding spoilt_first
returns-else-spoil-which c = grind (arith, common_steps)
