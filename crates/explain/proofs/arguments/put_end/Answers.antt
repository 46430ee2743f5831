-- `explain::arguments::put_end` meets its contract.
use native.Mathlib.Omega.{arith}
use Rattle.explain.proofs.Sayings.{trace_to_come, no_argument, all_said}
use Rattle.explain.proofs.arguments.put_end.Goals as goal

pub returns-then-held : goal.returns-then-held
returns-then-held c = let p = c.put_usage.ensures in (trace_to_come _ _ c.if-held.true p.0, p.1)

pub returns-then-count-lt2 : goal.returns-then-count-lt2
returns-then-count-lt2 c = let p = c.put_usage-then-count-lt2.ensures in (no_argument _ _ c.if-held.false c.if-count-lt2.true p.0, p.1)

pub returns : goal.returns
returns c = (all_said _ _ _ c.if-held.false c.if-count-lt2.false, omega arith)
