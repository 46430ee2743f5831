-- `engine_wake::wake_one` meets its contract.
use mathlib.Core.Path.{sym, ◌∙◌}
use Prim.Native.Nat.{◌≤◌, ◌<◌}
use native.Mathlib.Omega.{arith}
use borrow.Author.Rules.{rules}
use Rattle.engine_blocks.specs.Blocks.{rows_of}
use Rattle.engine_ready.proofs.Distinct.{ordered_few}
use Rattle.engine_ready.proofs.Falling.{length_slots}
use Rattle.engine_ready.specs.Ordered.{Ordered}
use Rattle.engine_ready.specs.Slots.{slots_of}
use Rattle.engine_wake.proofs.Waking.{stays_awake, comes_earlier, is_woken, not_inserted, inserted, insert_room}
use Rattle.engine_wake.proofs.wake_one.Goals as goal

pub returns-then-not-asleep : goal.returns-then-not-asleep
returns-then-not-asleep c =
    let a = c.args in
    let r = rows_of a.m.now in
    not_inserted r _ a.s (slots_of a.q) (stays_awake r a.from a.s (sym c.asleep.ensures ∙ c.if-not-asleep.true))

pub returns-then-low-from : goal.returns-then-low-from
returns-then-low-from c =
    let a = c.args in
    let r = rows_of a.m.now in
    let e = c.low-low.ensures in
    let early : (r a.s).low < a.from = omega arith in
    not_inserted r _ a.s (slots_of a.q) (comes_earlier r a.from a.s early)

pub push-requires : goal.push-requires
push-requires c =
    let a = c.args in
    let r = rows_of a.m.now in
    let o : Ordered r (slots_of a.q) = search rules in
    let h : a.s < 64 = search rules in
    let n = length_slots a.q in
    let few = ordered_few r (slots_of a.q) o in
    (search rules, h, omega arith, insert_room r a.s (slots_of a.q) h o)

pub returns : goal.returns
returns c =
    let a = c.args in
    let r = rows_of a.m.now in
    let e = c.low-low.ensures in
    let later : a.from ≤ (r a.s).low = omega arith in
    c.push.ensures.1 ∙ inserted r _ a.s (slots_of a.q) (is_woken r a.from a.s (sym c.asleep.ensures ∙ c.if-not-asleep.false) later)
