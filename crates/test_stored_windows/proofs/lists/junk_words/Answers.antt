-- `test_stored_windows::junk_words` meets its contract.
use mathlib.Core.Path.{refl}
use Rattle.test_stored_windows.specs.Lists.{junk_words}
use Rattle.test_stored_windows.proofs.lists.junk_words.Goals as goal

pub returns : goal.returns
unfolding junk_words
returns c = (refl, refl)
