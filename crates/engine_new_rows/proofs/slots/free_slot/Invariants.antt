-- `engine_new_rows::slots::free_slot`: the slots so far are used, and the lowest free one is among the others.
use mathlib.Core.Bool.{true}
use mathlib.Core.Path.{◌≡◌}
use Prim.Native.Nat.{ℕ, ◌-◌, ◌<◌}
use Rattle.engine_rows.specs.Engine.{free_slot}
use Rattle.engine_blocks.specs.Blocks.{rows_of}
use Rattle.engine_new_rows.proofs.slots.free_slot.Given as goal

abbrev pub invariant-loop-s : goal.invariant-loop-s
invariant-loop-s l = (free_slot (rows_of l.m) 64 ≡ free_slot (rows_of l.m) (64 - l.s)) × ((k : ℕ) → k < l.s → (rows_of l.m k).used ≡ true)
