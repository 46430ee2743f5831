use Rattle.engine_ready.specs.Slots.{slots_of}
use Rattle.engine_due.proofs.ReachedBlocks.{SlotsSoFar}
use Rattle.engine_due.proofs.due.make_due_slots.Given as goal

abbrev pub invariant-loop-s : goal.invariant-loop-s
invariant-loop-s l = SlotsSoFar l.present.0 l.s l.initial.m l.m (slots_of l.initial.woken) (slots_of l.woken)
