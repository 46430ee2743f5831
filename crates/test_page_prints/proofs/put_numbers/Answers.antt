-- `test_page_prints::put_numbers` meets its contract.
use native.Mathlib.Omega.{arith}
use Rattle.listing.specs.Bytes.{bytes_of}
use Rattle.session_print.proofs.LineBytes as line
use Rattle.test_page_prints.specs.Prints.{numbers_of}
use Rattle.test_page_prints.proofs.put_numbers.Goals as goal

pub returns : goal.returns
unfolding numbers_of bytes_of
returns c =
    let number = c.put_figure-a.ensures in
    let first = c.put_text-b.ensures in
    let place = c.put_figure-c.ensures in
    let second = c.put_text-d.ensures in
    let pages = c.put_figure.ensures in
    (line.then_bytes number.0 (line.then_bytes first.0 (line.then_bytes place.0 (line.then_bytes second.0 pages.0))), omega (arith, number.1, first.1, place.1, second.1, pages.1))
