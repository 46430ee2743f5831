-- `explain_trace_said::asked::line_divides` meets its contract.
use mathlib.Core.Path.{sym, ◌∙◌}
use Rattle.explain_trace_said.specs.Asked.{divides}
use Rattle.explain_trace_said.proofs.asked.line_divides.Goals as goal

pub returns-then-stands_in : goal.returns-then-stands_in
unfolding divides
returns-then-stands_in c = rw (sym c.stands_in.ensures ∙ c.if-stands_in.true)

pub returns : goal.returns
unfolding divides
returns c = rw (sym c.stands_in.ensures ∙ c.if-stands_in.false) c.stands_in-2.ensures
