use Rattle.session_trace_lines.proofs.Bounds as bounds
use Rattle.session_trace_lines.proofs.figure.figure_up_to.Given as goal

abbrev pub invariant-loop-i : goal.invariant-loop-i
invariant-loop-i l = bounds.Reading l.s l.from l.to l.n l.i
