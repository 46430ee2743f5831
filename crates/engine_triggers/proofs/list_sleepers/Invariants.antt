use Prim.Native.Nat.{◌*◌, ◌≤◌}
use lib.ListN.{length}
use Rattle.engine_blocks.specs.Blocks.{rows_of}
use Rattle.engine_triggers.specs.Awaited.{listed_below_lem}
use Rattle.engine_triggers.specs.Chains.{Chains, OnlyTriggers}
use Rattle.engine_triggers.proofs.list_sleepers.Given as goal

-- `engine_triggers::list_sleepers` meets its contract.
abbrev pub invariant-loop-s : goal.invariant-loop-s
invariant-loop-s l = (12288 ≤ length l.m) × (OnlyTriggers l.initial.m l.m) × (Chains l.m (4 * l.s) (listed_below_lem l.t (rows_of l.initial.m) l.s))
