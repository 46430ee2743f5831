-- `test_stored_windows::junk_moments` meets its contract.
use mathlib.Core.Path.{refl}
use Rattle.test_stored_windows.specs.Lists.{junk_moments}
use Rattle.test_stored_windows.proofs.lists.junk_moments.Goals as goal

pub returns : goal.returns
unfolding junk_moments
returns c = (refl, refl)
