use Prim.Native.Nat.{◌-◌}
use lib.ListN.{length}
use Rattle.text_records.proofs.Lines as lines
use Rattle.text_records.proofs.form.form_place.Given as goal

abbrev pub invariant-loop-at : goal.invariant-loop-at
invariant-loop-at l = lines.Pass l.s l.at.offset l.at.line

abbrev pub decreases-loop-at : goal.decreases-loop-at
decreases-loop-at l = length l.s - l.at.offset
