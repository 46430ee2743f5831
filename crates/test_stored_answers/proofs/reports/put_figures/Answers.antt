-- `test_stored_answers::reports::put_figures` meets its contract.
use native.Mathlib.Omega.{arith}
use Rattle.listing.specs.Bytes.{bytes_of}
use Rattle.session_print.proofs.LineBytes as line
use Rattle.test_stored_answers.specs.Reports.{figures_of}
use Rattle.test_stored_answers.proofs.reports.put_figures.Goals as goal

pub returns : goal.returns
unfolding figures_of bytes_of
returns c =
    let number = c.put_named-a.ensures in
    let steps = c.put_named-b.ensures in
    let listed = c.put_named-c.ensures in
    let due = c.put_named.ensures in
    (line.then_bytes number.0 (line.then_bytes steps.0 (line.then_bytes listed.0 due.0)), omega (arith, number.1, steps.1, listed.1, due.1))
