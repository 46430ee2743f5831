use Prim.Native.Nat.{◌-◌}
use lib.ListN.{length}
use Rattle.text_fields.proofs.Gather as gather
use Rattle.text_fields.proofs.field.pieces_field.Given as goal

abbrev pub invariant-loop-g : goal.invariant-loop-g
invariant-loop-g l = gather.Gathered l.names l.s l.initial.at l.line l.at l.g

abbrev pub decreases-loop-g : goal.decreases-loop-g
decreases-loop-g l = length l.s - l.at
