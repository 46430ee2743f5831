-- `explain_session::told::put_told` meets its contract.
use native.Mathlib.Omega.{arith}
use Rattle.listing.specs.Bytes.{bytes_of}
use Rattle.session_print.proofs.LineBytes as line
use Rattle.explain_session.specs.Told.{told_line}
use Rattle.explain_session.proofs.told.put_told.Goals as goal

pub returns : goal.returns
unfolding told_line bytes_of
returns g c =
    let a = c.put_fault-a.ensures in
    let b = c.put_text-b.ensures in
    let d = c.put_shown-c.ensures in
    let e = c.put_code.ensures in
    (line.then_bytes a.0 (line.then_bytes b.0 (line.then_bytes d.0 e.0)), omega (arith, a.1, b.1, d.1, e.1))
