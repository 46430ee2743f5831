-- `test_stored_answers::reports::put_reports` meets its contract.
use native.Mathlib.Omega.{arith}
use Rattle.listing.specs.Bytes.{bytes_of}
use Rattle.session_print.proofs.LineBytes as line
use Rattle.test_stored_answers.specs.Reports.{report_lines}
use Rattle.test_stored_answers.proofs.reports.put_reports.Goals as goal

pub returns : goal.returns
unfolding report_lines bytes_of
returns c =
    let first = c.put_report-a.ensures in
    let second = c.put_report.ensures in
    (line.then_bytes first.0 second.0, omega (arith, first.1, second.1))
