-- `explain_trace_said::asked::put_asked_line` meets its contract.
use native.Mathlib.Omega.{arith}
use Rattle.listing.specs.Bytes.{bytes_of}
use Rattle.session_print.proofs.LineBytes as line
use Rattle.explain_trace_said.specs.Asked.{asked_line}
use Rattle.explain_trace_said.proofs.asked.put_asked_line.Goals as goal

pub returns : goal.returns
unfolding asked_line bytes_of
returns c =
    let a = c.put_place-a.ensures in
    let b = c.put_word-b.ensures in
    let d = c.put_shown-c.ensures in
    let e = c.put_text.ensures in
    (line.then_bytes a.0 (line.then_bytes b.0 (line.then_bytes d.0 e.0)), omega (arith, a.1, b.1, d.1, e.1))
