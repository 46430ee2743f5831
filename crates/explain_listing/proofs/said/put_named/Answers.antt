-- `explain::said::put_named` meets its contract.
use native.Mathlib.Omega.{arith}
use Rattle.session_print.proofs.LineBytes as line
use Rattle.explain_listing.proofs.said.put_named.Goals as goal

pub returns : goal.returns
returns c =
    let name = c.put_name-a.ensures in
    let text = c.put_text.ensures in
    (line.then_bytes name.0 text.0, omega (arith, name.1, text.1, c.requires))
