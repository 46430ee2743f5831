-- `test_stored_answers::reports::put_named` meets its contract.
use native.Mathlib.Omega.{arith}
use Rattle.session_print.proofs.LineBytes as line
use Rattle.test_stored_answers.proofs.reports.put_named.Goals as goal

pub returns : goal.returns
returns c =
    let name = c.put_text-a.ensures in
    let number = c.put_figure.ensures in
    (line.then_bytes name.0 number.0, omega (arith, name.1, number.1, c.requires.1))
