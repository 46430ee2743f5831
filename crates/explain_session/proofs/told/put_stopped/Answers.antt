-- `explain_session::told::put_stopped` meets its contract.
use native.Mathlib.Omega.{arith}
use Rattle.listing.specs.Bytes.{bytes_of}
use Rattle.session_print.proofs.LineBytes as line
use Rattle.explain_session.specs.Told.{stopped_text}
use Rattle.explain_session.proofs.told.put_stopped.Goals as goal

pub returns : goal.returns
unfolding stopped_text bytes_of
returns c =
    let a = c.put_place-a.ensures in
    let b = c.put_text-b.ensures in
    let d = c.put_figure-c.ensures in
    let e = c.put_text-d.ensures in
    let f = c.put_code-e.ensures in
    let g = c.put_asked.ensures in
    (line.then_bytes a.0 (line.then_bytes b.0 (line.then_bytes d.0 (line.then_bytes e.0 (line.then_bytes f.0 g.0)))), omega (arith, a.1, b.1, d.1, e.1, f.1, g.1))
