-- `engine_wake_all::wake_all` meets its contract.
use mathlib.Core.Path.{◌≡◌, refl, sym, ◌∙◌}
use native.Mathlib.Numerals.{add-one}
use native.Mathlib.Omega.{arith}
use borrow.Author.Rules.{rules}
use Rattle.engine_blocks.specs.Blocks.{rows_of}
use Rattle.engine_ready.proofs.Distinct.{ordered_few}
use Rattle.engine_ready.proofs.Falling.{length_slots}
use Rattle.engine_ready.specs.Ordered.{Ordered}
use Rattle.engine_ready.specs.Slots.{falling, slots_of}
use Rattle.engine_wake_all.proofs.Putting.{first_goes, putting_room, putting_next, putting_few, gathered, gathered_long, putting_end}
use Rattle.engine_triggers.specs.Chains.{first_trigger, triggers_at}
use Rattle.engine_wake_all.proofs.wake_all.Goals as goal

pub first_low-low-requires : goal.first_low-low-requires
first_low-low-requires c =
    let a = c.args in
    let o : Ordered (rows_of a.m.now) (slots_of a.q) = search rules in
    let few = ordered_few (rows_of a.m.now) (slots_of a.q) o in
    let n = length_slots a.q in
    (search rules, omega arith)

pub loop-most-init : goal.loop-most-init
unfolding falling triggers_at
loop-most-init c =
    let a = c.args in
    let m = a.m.now in
    let e : c.number-next.result ≡ first_trigger m a.s a.index = c.number-next.ensures.0 ∙ c.word_at.ensures in
    (omega arith, refl, record { size = refl; bound = omega arith; order = search rules; first = c.first_low-low.ensures; left = rw e })

pub overflow_sub-most : goal.overflow_sub-most
overflow_sub-most c =
    let g = first_goes _ _ _ _ (sym c.goes_first.ensures ∙ c.loop-most-test.true) in
    let some = g.some in
    omega arith

pub low-requires : goal.low-requires
low-requires c =
    let g = first_goes _ _ _ _ (sym c.goes_first.ensures ∙ c.loop-most-test.true) in
    let near = g.near in
    (search rules, omega arith)

pub overflow_cast-new : goal.overflow_cast-new
overflow_cast-new c =
    let near = (first_goes _ _ _ _ (sym c.goes_first.ensures ∙ c.loop-most-test.true)).near in
    omega arith

pub bounds-new-count : goal.bounds-new-count
bounds-new-count c =
    let v = c.loop-most in
    let room = putting_room _ _ _ _ _ _ _ _ v.invariant.2 (first_goes _ _ _ _ (sym c.goes_first.ensures ∙ c.loop-most-test.true)) in
    omega arith

pub overflow_add-count : goal.overflow_add-count
overflow_add-count c =
    let v = c.loop-most in
    let room = putting_room _ _ _ _ _ _ _ _ v.invariant.2 (first_goes _ _ _ _ (sym c.goes_first.ensures ∙ c.loop-most-test.true)) in
    omega arith

pub word_at-requires-in-loop-most : goal.word_at-requires-in-loop-most
word_at-requires-in-loop-most c =
    let near = (first_goes _ _ _ _ (sym c.goes_first.ensures ∙ c.loop-most-test.true)).near in
    (search rules, omega arith, omega arith)

pub loop-most-smaller : goal.loop-most-smaller
loop-most-smaller c =
    let g = first_goes _ _ _ _ (sym c.goes_first.ensures ∙ c.loop-most-test.true) in
    let some = g.some in
    let near = g.near in
    omega arith

pub loop-most-preserved : goal.loop-most-preserved
loop-most-preserved c =
    let v = c.loop-most in
    let g = first_goes _ _ _ _ (sym c.goes_first.ensures ∙ c.loop-most-test.true) in
    let next = c.number-next-in-loop-most.ensures.0 ∙ c.word_at-in-loop-most.ensures in
    let P = putting_next _ _ _ _ _ _ _ _ v.invariant.2 g in
    (P.bound, P.size, rw (next, c.low.ensures, add-one) P)

pub returns-then-next-gt0 : goal.returns-then-next-gt0
returns-then-next-gt0 c = c.wake_from.ensures

pub slice_bounds-new-end : goal.slice_bounds-new-end
slice_bounds-new-end c =
    let v = c.loop-most in
    let few = putting_few _ _ _ _ _ _ _ _ v.invariant.2 in
    omega (arith, v.invariant.1)

pub slice_bounds-put_first-end : goal.slice_bounds-put_first-end
slice_bounds-put_first-end c = sym (gathered_long _ _ _ _ _ _ _ _ c.loop-most.invariant.2)

pub put_first-requires : goal.put_first-requires
put_first-requires c =
    let v = c.loop-most in
    let few = putting_few _ _ _ _ _ _ _ _ v.invariant.2 in
    let long = gathered_long _ _ _ _ _ _ _ _ v.invariant.2 in
    let n = length_slots c.args.q in
    omega arith

pub returns : goal.returns
returns c =
    let v = c.loop-most in
    let none : v.next ≡ 0 = omega arith in
    let e = rw (gathered_long _ _ _ _ _ _ _ _ v.invariant.2, gathered _ _ _ _ _ _ _ _ v.invariant.2) at c.put_first.ensures.1 in
    (e ∙ putting_end _ _ _ _ _ _ _ _ v.invariant.2 none, rw e v.invariant.2.order)
