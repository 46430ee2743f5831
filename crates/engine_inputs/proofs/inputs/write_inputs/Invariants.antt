use Prim.Native.Nat.{ℕ}
use lib.ListN.{length}
use Rattle.engine_blocks.specs.Blocks.{rows_of}
use Rattle.engine_ready.specs.Ordered.{Ordered}
use Rattle.engine_ready.specs.Slots.{slots_of}
use Rattle.engine_due.specs.Beginnings.{NumbersBelow}
use Rattle.engine_due.specs.Reaching.{Reaches}
use Rattle.engine_inputs.proofs.InputPass.{InputsSoFar}
use Rattle.engine_inputs.proofs.inputs.write_inputs.Given as goal

abbrev pub invariant-loop-number : goal.invariant-loop-number
invariant-loop-number l =
    InputsSoFar l.numbers l.values (length l.yielded) l.initial.m l.m × (Ordered (rows_of l.m) (slots_of l.woken))
    × ((n : ℕ) → NumbersBelow n l.numbers → Reaches n l.initial.m l.m (slots_of l.initial.woken) (slots_of l.woken))
