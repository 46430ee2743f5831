use Prim.Native.Nat.{◌-◌}
use lib.ListN.{length}
use Rattle.session_trace.proofs.Groups as groups
use Rattle.session_trace.proofs.group.next_call.Given as goal

abbrev pub invariant-loop-input : goal.invariant-loop-input
invariant-loop-input l = groups.Grouped l.trace l.at l.time l.initial.numbers l.initial.values l.numbers l.values l.count l.next

abbrev pub decreases-loop-input : goal.decreases-loop-input
decreases-loop-input l = length l.trace - l.next
