use mathlib.Core.Path.{◌≡◌}
use Prim.Native.Nat.{◌≤◌}
use Rattle.engine_rows.specs.Ready.{insert_all_lem}
use Rattle.engine_blocks.specs.Blocks.{rows_of}
use Rattle.engine_ready.specs.Ordered.{Ordered}
use Rattle.engine_ready.specs.Slots.{slots_of}
use Rattle.engine_triggers.specs.Chains.{chained, triggers_at}
use Rattle.engine_wake.specs.Wakes.{triggered_from}
use Rattle.engine_wake.proofs.wake_from.Given as goal

-- `engine_wake::wake_from` meets its contract.
abbrev pub invariant-loop-next : goal.invariant-loop-next
invariant-loop-next l =
    (l.next ≤ 256) × (Ordered (rows_of l.m) (slots_of l.woken))
    × (insert_all_lem (rows_of l.m) (triggered_from (rows_of l.m) l.from (chained l.m l.next l.next)) (slots_of l.woken)
    ≡ insert_all_lem (rows_of l.m) (triggered_from (rows_of l.m) l.from (triggers_at l.m l.s l.index)) (slots_of l.initial.woken))

abbrev pub decreases-loop-next : goal.decreases-loop-next
decreases-loop-next l = l.next
