-- `explain_trace_said::reason::put_code` meets its contract.
use native.Mathlib.Omega.{arith}
use Rattle.listing.specs.Bytes.{bytes_of}
use Rattle.session_print.proofs.LineBytes as line
use Rattle.explain_trace_said.specs.Reasons.{code_text}
use Rattle.explain_trace_said.proofs.reason.put_code.Goals as goal

pub returns : goal.returns
unfolding code_text bytes_of
returns c =
    let a = c.put_text-a.ensures in
    let b = c.put_figure-b.ensures in
    let d = c.put_text-c.ensures in
    let e = c.put_rule-d.ensures in
    let f = c.put_text.ensures in
    (line.then_bytes a.0 (line.then_bytes b.0 (line.then_bytes d.0 (line.then_bytes e.0 f.0))), omega (arith, a.1, b.1, d.1, e.1, f.1))
