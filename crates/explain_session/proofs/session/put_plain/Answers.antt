-- `explain_session::session::put_plain` meets its contract.
use native.Mathlib.Omega.{arith}
use Rattle.session_print.proofs.LineBytes as line
use Rattle.explain_session.proofs.session.put_plain.Goals as goal

pub returns : goal.returns
returns c =
    let a = c.put_shown-a.ensures in
    let b = c.put_text.ensures in
    (line.then_bytes a.0 b.0, omega (arith, a.1, b.1, c.requires))
