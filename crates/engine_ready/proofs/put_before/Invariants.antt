-- `engine_ready::put_before`: the new slots so far stand below the end, in their order; the others stay.
use mathlib.Core.Path.{◌≡◌}
use Prim.Native.Nat.{◌-◌}
use lib.ListN.{length, take}
use Rattle.engine_ready.specs.Slots.{falling}
use Rattle.engine_ready.proofs.put_before.Given as goal

abbrev pub invariant-loop-i : goal.invariant-loop-i
invariant-loop-i l =
    (length l.p ≡ 64) × (falling l.p (l.end - l.i) l.i ≡ take l.i l.new) × (falling l.p 0 l.fn.q.count ≡ falling l.initial.p 0 l.fn.q.count)
