-- `test_page_prints::put_line` meets its contract.
use native.Mathlib.Omega.{arith}
use Rattle.listing.specs.Bytes.{bytes_of}
use Rattle.session_print.proofs.LineBytes as line
use Rattle.test_page_prints.specs.Prints.{case_line}
use Rattle.test_page_prints.proofs.put_line.Goals as goal

pub returns : goal.returns
unfolding case_line bytes_of
returns c =
    let first = c.put_text-a.ensures in
    let name = c.put_figure-b.ensures in
    let second = c.put_text-c.ensures in
    let numbers = c.put_numbers-d.ensures in
    let kept = c.put_kept.ensures in
    (line.then_bytes first.0 (line.then_bytes name.0 (line.then_bytes second.0 (line.then_bytes numbers.0 kept.0))), omega (arith, first.1, name.1, second.1, numbers.1, kept.1))
