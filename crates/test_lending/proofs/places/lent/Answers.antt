use Rattle.std.proofs.Common.{arith}
use Rattle.std.proofs.lemmas.Grind.{common_steps}
use Rattle.test_lending.specs.Places.{lent_places}
use Rattle.test_lending.proofs.places.lent.Goals as goal

pub returns-then-spoil-which : goal.returns-then-spoil-which
unfolding lent_places
returns-then-spoil-which c = grind (arith, common_steps)

pub returns-else-spoil-which : goal.returns-else-spoil-which
unfolding lent_places
returns-else-spoil-which c = grind (arith, common_steps)
