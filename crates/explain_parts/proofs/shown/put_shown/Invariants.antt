use Rattle.explain_parts.proofs.Showing.{Showing}
use Rattle.explain_parts.proofs.shown.put_shown.Given as goal

abbrev pub invariant-loop-b : goal.invariant-loop-b
invariant-loop-b l = Showing l.initial.out l.at l.kept l.out l.past l.b-index
