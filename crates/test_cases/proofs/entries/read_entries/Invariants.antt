use Prim.Native.Nat.{ℕ}
use Rattle.test_cases.specs.Frame.{onward}
use Rattle.test_cases.proofs.Reading.{Reading}
use Rattle.test_cases.proofs.entries.read_entries.Given as goal

abbrev pub invariant-loop-entry : goal.invariant-loop-entry
invariant-loop-entry g l = Reading (g.T.Entry.entry l.s) (λ (p : ℕ). onward l.s p g.T.Entry.BYTES) l.at l.initial.list l.list l.place l.entry-index
