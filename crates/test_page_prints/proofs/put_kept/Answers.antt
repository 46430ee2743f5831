-- `test_page_prints::put_kept` meets its contract.
use native.Mathlib.Omega.{arith}
use Rattle.listing.specs.Bytes.{bytes_of}
use Rattle.test_page_prints.specs.Prints.{kept_word_lem}
use Rattle.test_page_prints.proofs.put_kept.Goals as goal

pub returns-then-kept : goal.returns-then-kept
unfolding kept_word_lem bytes_of
returns-then-kept c = let p = c.put_text.ensures in (rw c.if-kept.true p.0, omega (arith, p.1))

pub returns-else-kept : goal.returns-else-kept
unfolding kept_word_lem bytes_of
returns-else-kept c = let p = c.put_text-else-kept.ensures in (rw c.if-kept.false p.0, omega (arith, p.1))
