-- `explain_trace_said::asked::put_asked` meets its contract.
use Rattle.session_print.proofs.LineBytes as line
use Rattle.explain_trace_said.proofs.Saying.{all_lines}
use Rattle.explain_trace_said.proofs.asked.put_asked.Goals as goal

pub returns : goal.returns
returns c = let p = c.put_all_asked.ensures in (line.same_bytes (all_lines _ _ _ _ c.count_asked-alone.ensures) p.0, p.1)
