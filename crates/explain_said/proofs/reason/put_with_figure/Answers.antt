-- `explain_said::reason::put_with_figure` meets its contract.
use native.Mathlib.Omega.{arith}
use Rattle.session_print.proofs.LineBytes as line
use Rattle.explain_said.proofs.reason.put_with_figure.Goals as goal

pub returns-in-Some : goal.returns-in-Some
returns-in-Some c =
    let text = c.put_text-past.ensures in
    let figure = c.put_figure.ensures in
    rw c.in-Some.is (line.then_bytes text.0 figure.0, omega (arith, text.1, figure.1, c.requires.1))

pub returns-in-None : goal.returns-in-None
returns-in-None c = let text = c.put_text-past.ensures in rw c.in-None.is (text.0, omega (arith, text.1, c.requires.1))
