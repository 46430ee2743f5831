use lib.ListN.{length}
use Rattle.explain_trace_said.proofs.Asking.{Asking}
use Rattle.explain_trace_said.proofs.asked.put_all_asked.Given as goal

abbrev pub invariant-loop-line : goal.invariant-loop-line
invariant-loop-line l = Asking l.path l.code l.alone l.listing l.initial.out l.at l.out l.past (length l.yielded) l.number l.seen
