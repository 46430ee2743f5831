use Rattle.explain_listing.proofs.Sayings.{Ruling}
use Rattle.explain_listing.proofs.said.put_usage.Given as goal

abbrev pub invariant-loop-done : goal.invariant-loop-done
invariant-loop-done l = Ruling l.initial.out l.initial.at l.out l.at l.done
