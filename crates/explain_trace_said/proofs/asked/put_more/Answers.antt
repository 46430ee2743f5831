-- `explain_trace_said::asked::put_more` meets its contract.
use native.Mathlib.Omega.{arith}
use Rattle.listing.specs.Bytes.{bytes_of}
use Rattle.session_print.proofs.LineBytes as line
use Rattle.explain_trace_said.proofs.Saying.{none_put, none_more, some_more}
use Rattle.explain_trace_said.proofs.asked.put_more.Goals as goal

pub returns-then-seen-le-LINES_SHOWN : goal.returns-then-seen-le-LINES_SHOWN
returns-then-seen-le-LINES_SHOWN c = (line.same_bytes (none_more _ c.if-seen-le-LINES_SHOWN.true) (none_put _ _), omega arith)

pub returns : goal.returns
unfolding bytes_of
returns c =
    let a = c.put_text-a.ensures in
    let b = c.put_figure-b.ensures in
    let d = c.put_text.ensures in
    (line.same_bytes (some_more _ c.if-seen-le-LINES_SHOWN.false) (line.then_bytes a.0 (line.then_bytes b.0 d.0)), omega (arith, a.1, b.1, d.1))
