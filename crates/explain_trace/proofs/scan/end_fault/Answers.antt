-- `explain_trace::scan::end_fault` meets its contract.
use mathlib.Core.Path.{◌∙◌}
use Rattle.explain_trace.proofs.Lines.{nothing_there, something_there}
use Rattle.explain_trace.proofs.scan.end_fault.Goals as goal

pub returns-then-bytes-eq0 : goal.returns-then-bytes-eq0
returns-then-bytes-eq0 c = rw c.about.ensures (nothing_there _ _ c.if-bytes-eq0.true)

pub returns : goal.returns
returns c = c.unformed.ensures ∙ something_there _ _ c.if-bytes-eq0.false
