-- `test_page_prints::put_row` meets its contract.
use native.Mathlib.Omega.{arith}
use Rattle.listing.specs.Bytes.{bytes_of}
use Rattle.test_cases.proofs.Telling.{all_words}
use Rattle.test_page_prints.proofs.Printing.{row_blank, row_shown}
use Rattle.test_page_prints.proofs.put_row.Goals as goal

pub returns-then-all_are : goal.returns-then-all_are
returns-then-all_are c = row_blank _ _ _ _ (all_words _ _ c.all_are.ensures) c.if-all_are.true

pub returns : goal.returns
unfolding bytes_of
returns c =
    let figure = c.put_figure-a.ensures in
    let gap = c.put_text-b.ensures in
    let row = c.put_text.ensures in
    row_shown _ _ (all_words _ _ c.all_are.ensures) c.if-all_are.false figure.0 gap.0 row.0 (omega (arith, figure.1, gap.1, row.1))
