-- `explain_trace_said::asked::put_if_asked` meets its contract.
use mathlib.Core.Path.{sym, ◌∙◌}
use native.Mathlib.Omega.{arith}
use Rattle.session_print.proofs.LineBytes as line
use Rattle.explain_trace_said.proofs.Saying.{none_put, not_asked, not_shown, asked_here}
use Rattle.explain_trace_said.proofs.asked.put_if_asked.Goals as goal

pub returns-then-not-is_asked : goal.returns-then-not-is_asked
returns-then-not-is_asked c = let n = not_asked _ _ _ _ _ _ (sym c.is_asked.ensures ∙ c.if-not-is_asked.true) in (line.same_bytes n.0 (none_put _ _), omega (arith, n.1))

pub returns-then-seen-ge-LINES_SHOWN : goal.returns-then-seen-ge-LINES_SHOWN
returns-then-seen-ge-LINES_SHOWN c = let n = not_shown _ _ _ _ _ _ c.if-seen-ge-LINES_SHOWN.true in (line.same_bytes n (none_put _ _), omega arith)

pub returns : goal.returns
returns c =
    let p = c.put_asked_line.ensures in
    let n = asked_here _ _ _ _ _ _ (sym c.is_asked.ensures ∙ c.if-not-is_asked.false) c.if-seen-ge-LINES_SHOWN.false in
    (line.same_bytes n.0 p.0, omega (arith, p.1, n.1))
