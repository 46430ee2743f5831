-- `test_stored_windows::words_right` meets its contract.
use mathlib.Core.Path.{sym}
use lib.Seq.{length-take-le}
use borrow.Author.Rules.{rules}
use Rattle.test_stored_windows.proofs.lists.words_right.Goals as goal

pub slice_bounds-words_stored-end : goal.slice_bounds-words_stored-end
slice_bounds-words_stored-end c = sym (length-take-le _ _ (search rules))

pub slice_bounds-words_stored-end-2 : goal.slice_bounds-words_stored-end-2
slice_bounds-words_stored-end-2 c = sym (length-take-le _ _ (search rules))

pub returns : goal.returns
returns c = rw (c.junk_words-stored_inputs.ensures.1, c.junk_words-stored_values.ensures.1) at c.words_stored.ensures.0
