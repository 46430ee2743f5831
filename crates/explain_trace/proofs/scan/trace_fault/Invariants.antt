use Prim.Native.Nat.{◌+◌, ◌-◌}
use lib.ListN.{length}
use Rattle.explain_trace.proofs.Lines.{Scanning}
use Rattle.explain_trace.proofs.scan.trace_fault.Given as goal

abbrev pub invariant-loop-inputs : goal.invariant-loop-inputs
invariant-loop-inputs l = Scanning l.inputs l.trace l.at l.line l.time l.least

abbrev pub decreases-loop-inputs : goal.decreases-loop-inputs
decreases-loop-inputs l = length l.trace + 1 - l.at
