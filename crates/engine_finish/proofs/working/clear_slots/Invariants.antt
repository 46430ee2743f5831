use Rattle.engine_due.specs.Passes.{Mapped}
use Rattle.engine_finish.specs.Ended.{idle_block}
use Rattle.engine_finish.proofs.working.clear_slots.Given as goal

abbrev pub invariant-loop-s : goal.invariant-loop-s
invariant-loop-s l = Mapped l.s idle_block l.initial.m l.m
