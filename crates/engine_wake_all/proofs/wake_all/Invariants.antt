use mathlib.Core.Path.{◌≡◌}
use Prim.Native.Nat.{◌≤◌}
use lib.ListN.{length}
use Rattle.engine_rows.specs.Ready.{insert_all_lem}
use Rattle.engine_blocks.specs.Blocks.{rows_of}
use Rattle.engine_ready.specs.Slots.{slots_of}
use Rattle.engine_wake_all.proofs.Putting.{Putting}
use Rattle.engine_triggers.specs.Chains.{triggers_at}
use Rattle.engine_wake.specs.Wakes.{triggered_from}
use Rattle.engine_wake_all.proofs.wake_all.Given as goal

abbrev pub invariant-loop-most : goal.invariant-loop-most
invariant-loop-most l =
    (l.most ≤ 256) × (length l.new ≡ 64)
    × (Putting l.m (insert_all_lem (rows_of l.m) (triggered_from (rows_of l.m) 0 (triggers_at l.m l.s l.index)) (slots_of l.q)) (slots_of l.q) l.next l.most l.low l.new l.count)

abbrev pub decreases-loop-most : goal.decreases-loop-most
decreases-loop-most l = l.most
