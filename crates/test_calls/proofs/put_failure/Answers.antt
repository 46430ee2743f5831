-- `test_calls::put_failure` meets its contract.
use native.Mathlib.Omega.{arith}
use Rattle.listing.specs.Bytes.{bytes_of}
use Rattle.session_print.proofs.LineBytes as line
use Rattle.test_calls.specs.Failures.{failure_line}
use Rattle.test_calls.proofs.put_failure.Goals as goal

pub returns : goal.returns
unfolding failure_line bytes_of
returns c =
    let first = c.put_text-a.ensures in
    let name = c.put_figure-b.ensures in
    let second = c.put_text-c.ensures in
    let item = c.put_figure-d.ensures in
    let last = c.put_text.ensures in
    (line.then_bytes first.0 (line.then_bytes name.0 (line.then_bytes second.0 (line.then_bytes item.0 last.0))), omega (arith, first.1, name.1, second.1, item.1, last.1))
