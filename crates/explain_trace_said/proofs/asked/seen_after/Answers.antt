-- `explain_trace_said::asked::seen_after` meets its contract.
use native.Mathlib.Omega.{arith}
use mathlib.Core.Path.{sym, ◌∙◌}
use Rattle.explain_trace_said.specs.Asked.{seen_after}
use Rattle.explain_trace_said.proofs.asked.seen_after.Goals as goal

pub returns-then-is_asked : goal.returns-then-is_asked
unfolding seen_after
returns-then-is_asked c = (rw (sym c.is_asked.ensures ∙ c.if-is_asked.true), omega arith)

pub returns : goal.returns
unfolding seen_after
returns c = (rw (sym c.is_asked.ensures ∙ c.if-is_asked.false), omega arith)
