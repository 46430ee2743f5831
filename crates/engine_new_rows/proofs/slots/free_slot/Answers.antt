-- `engine_new_rows::slots::free_slot` meets its contract.
use mathlib.Core.Path.{◌≡◌, sym, ap, ◌∙◌}
use Prim.Native.Nat.{◌-◌, ◌+◌, ◌<◌}
use native.Mathlib.Omega.{arith}
use Rattle.std.proofs.Common.{below_more}
use Rattle.engine_rows.specs.Engine.{free_slot}
use Rattle.engine_blocks.specs.Blocks.{rows_of}
use Rattle.engine_new_rows.proofs.FreeSlot.{free_slot_found, free_slot_higher}
use Rattle.engine_new_rows.proofs.slots.free_slot.Goals as goal

pub loop-s-init : goal.loop-s-init
loop-s-init c =
    let z : 64 ≡ 64 - 0 = omega arith in
    (ap (free_slot (rows_of c.args.m.now)) z, λ k h. absurd (omega arith))

pub returns-then-not-used : goal.returns-then-not-used
returns-then-not-used c =
    let v = c.loop-s in
    sym (v.invariant.0 ∙ free_slot_found (rows_of c.args.m.now) v.s c.loop-s-test.true (sym c.used.ensures ∙ c.if-not-used.true))

pub loop-s-preserved : goal.loop-s-preserved
loop-s-preserved c =
    let v = c.loop-s in
    let rows = rows_of c.args.m.now in
    let u = sym c.used.ensures ∙ c.if-not-used.false in
    let z : 63 - v.s ≡ 64 - (v.s + 1) = omega arith in
    (v.invariant.0 ∙ (free_slot_higher rows v.s c.loop-s-test.true u ∙ ap (free_slot rows) z), below_more _ _ v.invariant.1 u)

pub returns : goal.returns
returns c =
    let v = c.loop-s in
    λ k h. let l : k < v.s = omega arith in v.invariant.1 k l
