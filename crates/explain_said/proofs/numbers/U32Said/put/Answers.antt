-- A reason's number is said as its contract asks.
use native.Mathlib.Omega.{arith}
use Rattle.session_print.proofs.LineBytes as line
use Rattle.explain_said.proofs.numbers.U32Said.put.Goals as goal

pub returns : goal.returns
returns c =
    let text = c.sentence_of.ensures in
    let put = c.put_text.ensures in
    (line.same_bytes text.is put.0, omega (arith, put.1, text.short))
