use Prim.Native.Nat.{◌-◌}
use Rattle.explain_reasons.proofs.Tallies.{Tallying}
use Rattle.explain_reasons.proofs.tally.tally_lines.Given as goal

abbrev pub invariant-loop-done : goal.invariant-loop-done
invariant-loop-done l = Tallying l.listing l.lines l.at (l.lines - l.done) l.held
