-- `engine_due::due::make_due_in` meets its contract.
use mathlib.Core.Path.{◌≡◌}
use native.Mathlib.Omega.{arith}
use borrow.Author.Rules.{rules}
use Rattle.engine_ready.specs.Slots.{slots_of}
use Rattle.engine_due.proofs.ReachedBlocks.{order_kept, none_due_yet, one_more_due}
use Rattle.engine_due.proofs.due.make_due_in.Goals as goal

pub loop-i-init : goal.loop-i-init
loop-i-init c =
    let a = c.args in
    none_due_yet a.s a.count a.present.0 a.m.now (slots_of a.ready) c.requires.4

pub wake_if_written-woken-requires : goal.wake_if_written-woken-requires
wake_if_written-woken-requires c =
    let v = c.loop-i in
    (search rules, search rules, search rules, order_kept _ _ (slots_of v.woken) c.make_due.ensures v.invariant.order)

pub loop-i-preserved : goal.loop-i-preserved
loop-i-preserved c =
    let a = c.args in
    let v = c.loop-i in
    one_more_due a.s a.count a.present.0 v.i (search rules) (search rules) (search rules) c.loop-i-test.true v.invariant c.make_due.ensures c.wake_if_written-woken.ensures

pub returns : goal.returns
returns c =
    let v = c.loop-i in
    let z : v.i ≡ c.args.count = omega arith in
    let d = rw z at v.invariant in
    (d.words, d.order, d.reaches)
