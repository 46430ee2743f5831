-- `test_stored_windows::moments_right` meets its contract.
use mathlib.Core.Path.{sym}
use lib.Seq.{length-take-le}
use borrow.Author.Rules.{rules}
use Rattle.test_stored_windows.proofs.lists.moments_right.Goals as goal

pub slice_bounds-moments_stored-end : goal.slice_bounds-moments_stored-end
slice_bounds-moments_stored-end c = sym (length-take-le _ _ (search rules))

pub returns : goal.returns
returns c = rw c.junk_moments-stored.ensures.1 at c.moments_stored.ensures.0
