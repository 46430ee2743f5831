use Rattle.engine_ready.specs.Slots.{slots_of}
use Rattle.engine_due.proofs.ReachedBlocks.{DueSoFar}
use Rattle.engine_due.proofs.due.make_due_in.Given as goal

abbrev pub invariant-loop-i : goal.invariant-loop-i
invariant-loop-i l = DueSoFar l.s l.count l.present.0 l.i l.initial.m l.m (slots_of l.initial.woken) (slots_of l.woken)
