-- `explain_trace_said::place::put_place` meets its contract.
use native.Mathlib.Omega.{arith}
use Rattle.listing.specs.Bytes.{bytes_of}
use Rattle.session_print.proofs.LineBytes as line
use Rattle.explain_trace_said.specs.Places.{place_text}
use Rattle.explain_trace_said.proofs.place.put_place.Goals as goal

pub returns : goal.returns
unfolding place_text bytes_of
returns c =
    let a = c.put_shown-a.ensures in
    let b = c.put_text-b.ensures in
    let d = c.put_figure-c.ensures in
    let e = c.put_text.ensures in
    (line.then_bytes a.0 (line.then_bytes b.0 (line.then_bytes d.0 e.0)), omega (arith, a.1, b.1, d.1, e.1))
