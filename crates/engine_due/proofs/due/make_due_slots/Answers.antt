-- `engine_due::due::make_due_slots` meets its contract.
use mathlib.Core.Path.{◌≡◌}
use native.Mathlib.Omega.{arith}
use Rattle.engine_ready.specs.Slots.{slots_of}
use Rattle.engine_due.proofs.ReachedBlocks.{no_slot_yet, one_more_slot, slot_told}
use borrow.Author.Rules.{rules}
use Rattle.engine_due.proofs.due.make_due_slots.Goals as goal

pub loop-s-init : goal.loop-s-init
loop-s-init c =
    let a = c.args in
    no_slot_yet a.present.0 a.m.now (slots_of a.ready) c.requires.4

pub make_due_slot-woken-requires : goal.make_due_slot-woken-requires
make_due_slot-woken-requires c =
    let v = c.loop-s in
    let size = v.invariant.words.size in
    (omega arith, search rules, search rules, slot_told _ v.s v.invariant.words (search rules) (c.requires.3 v.s (search rules)), v.invariant.order)

pub loop-s-preserved : goal.loop-s-preserved
loop-s-preserved c =
    let a = c.args in
    let v = c.loop-s in
    let one = c.make_due_slot-woken.ensures in
    one_more_slot a.present.0 v.s (search rules) v.invariant one.0 one.1 one.2

pub returns : goal.returns
returns c =
    let v = c.loop-s in
    let z : v.s ≡ 64 = omega arith in
    let d = rw z at v.invariant in
    (d.words, d.order, d.reaches)
