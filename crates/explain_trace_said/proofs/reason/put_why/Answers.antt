-- `explain_trace_said::reason::put_why` meets its contract.
use native.Mathlib.Omega.{arith}
use Rattle.session_print.proofs.LineBytes as line
use Rattle.explain_trace_said.specs.Numbers.{why_text}
use Rattle.explain_trace_said.proofs.reason.put_why.Goals as goal

pub returns : goal.returns
unfolding why_text
returns c =
    let text = c.sentence_of.ensures in
    let a = c.put_text-a.ensures in
    let b = c.put_allowed.ensures in
    (line.then_bytes (line.same_bytes text.is a.0) b.0, omega (arith, a.1, text.short, b.1))
