-- `explain_schedule_said::reason::put_allowed` meets its contract.
use native.Mathlib.Omega.{arith}
use Rattle.session_print.proofs.LineBytes as line
use Rattle.explain_said.proofs.Saying.{none_put}
use Rattle.explain_schedule_said.proofs.Saying.{no_figure, some_figure}
use Rattle.explain_schedule_said.proofs.reason.put_allowed.Goals as goal

pub returns-then-why-lt-NO_DAY : goal.returns-then-why-lt-NO_DAY
returns-then-why-lt-NO_DAY c = (line.same_bytes (no_figure _ _ c.if-why-lt-NO_DAY.true) (none_put _ _), omega arith)

pub returns : goal.returns
returns c = let p = c.put_figure.ensures in (line.same_bytes (some_figure _ _ c.if-why-lt-NO_DAY.false) p.0, omega (arith, p.1))
