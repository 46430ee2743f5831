-- `explain_trace_said::reason::put_allowed` meets its contract.
use native.Mathlib.Omega.{arith}
use Rattle.session_print.proofs.LineBytes as line
use Rattle.explain_said.proofs.Saying.{none_put}
use Rattle.explain_trace_said.proofs.Saying.{no_figure, some_figure}
use Rattle.explain_trace_said.proofs.reason.put_allowed.Goals as goal

pub returns-then-why-lt-NOT_AFTER : goal.returns-then-why-lt-NOT_AFTER
returns-then-why-lt-NOT_AFTER c = (line.same_bytes (no_figure _ _ c.if-why-lt-NOT_AFTER.true) (none_put _ _), omega arith)

pub returns : goal.returns
returns c = let p = c.put_figure.ensures in (line.same_bytes (some_figure _ _ c.if-why-lt-NOT_AFTER.false) p.0, omega (arith, p.1))
