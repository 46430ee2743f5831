-- `explain_trace::scan::judge_last` meets its contract.
use Rattle.explain_trace.specs.Scans.{judge_last}
use Rattle.explain_trace.proofs.scan.judge_last.Goals as goal

pub returns-then-nothing_after : goal.returns-then-nothing_after
unfolding judge_last
returns-then-nothing_after c = rw c.if-nothing_after.true

pub returns : goal.returns
unfolding judge_last
returns c = rw (c.if-nothing_after.false, c.about.ensures)
