-- `test_stored_answers::reports::put_report` meets its contract.
use native.Mathlib.Omega.{arith}
use Rattle.listing.specs.Bytes.{bytes_of}
use Rattle.session_print.proofs.LineBytes as line
use Rattle.test_stored_answers.proofs.reports.put_report.Goals as goal

pub returns : goal.returns
unfolding bytes_of
returns c =
    let first = c.put_text-a.ensures in
    let figures = c.put_figures-b.ensures in
    let end = c.put_text.ensures in
    (line.then_bytes first.0 (line.then_bytes figures.0 end.0), omega (arith, first.1, figures.1, end.1, c.requires.1))
