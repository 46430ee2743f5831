-- `engine_inputs::inputs::write_inputs` meets its contract.
use mathlib.Core.Path.{◌≡◌}
use native.Mathlib.Omega.{arith}
use Prim.Native.Nat.{ℕ}
use lib.ListN.{length, get_or}
use borrow.Author.Rules.{rules}
use Rattle.std.proofs.Common.{[], ◌∷◌, ◌++◌, ◌+◌}
use Rattle.std.proofs.lemmas.Slice.Zip.{zip_turn, zip_end}
use Rattle.std.proofs.lemmas.List.{length_push}
use Rattle.walk.specs.State.{input_to}
use Rattle.engine_blocks.specs.Blocks.{block, owner_at}
use Rattle.engine_blocks.specs.Store.{with_variable}
use Rattle.engine_blocks.specs.Changes.{Changes, overwritten_block}
use Rattle.engine_ready.specs.Slots.{slots_of}
use Rattle.engine_inputs.proofs.InputPass.{inputs_begun, one_more_input, inputs_done}
use Rattle.engine_due.proofs.Reached.{reaches_none, reaches_then}
use Rattle.engine_due.proofs.ReachedBlocks.{order_kept, input_reaches}
use Rattle.engine_inputs.proofs.inputs.write_inputs.Goals as goal

pub loop-number-init : goal.loop-number-init
loop-number-init c =
    let a = c.args in
    (inputs_begun a.numbers.now a.values.now a.m.now, c.requires.3, λ n h. reaches_none n a.m.now (slots_of a.ready))

pub overwrite-requires : goal.overwrite-requires
overwrite-requires c =
    let a = c.args in
    let v = c.loop-number in
    let begun = c.into_iter-number-iterator.ensures.into_iter_gives in
    let here = zip_turn a.numbers.now a.values.now v.yielded _ _ c.next.new.self _ (rw (begun, c.zip-number-items.ensures.first) c.iter.ensures.rest)
    (rw begun c.zip-number-items.ensures.second.0) v.yielded_by _ c.in-Some.is c.next.ensures.steps in
    (search rules, search rules, rw (here.2 0) (c.requires.2.below (length v.yielded) here.0))

pub wake_all-woken-requires : goal.wake_all-woken-requires
wake_all-woken-requires c =
    let a = c.args in
    let v = c.loop-number in
    let begun = c.into_iter-number-iterator.ensures.into_iter_gives in
    let here = zip_turn a.numbers.now a.values.now v.yielded _ _ c.next.new.self _ (rw (begun, c.zip-number-items.ensures.first) c.iter.ensures.rest)
    (rw begun c.zip-number-items.ensures.second.0) v.yielded_by _ c.in-Some.is c.next.ensures.steps in (
      search rules,
      search rules,
      rw (here.2 0) (c.requires.2.below (length v.yielded) here.0),
      order_kept _ _ (slots_of v.woken) (c.overwrite.ensures 0) v.invariant.1,
    )

pub loop-number-preserved : goal.loop-number-preserved
loop-number-preserved c =
    let a = c.args in
    let v = c.loop-number in
    let begun = c.into_iter-number-iterator.ensures.into_iter_gives in
    let here = zip_turn a.numbers.now a.values.now v.yielded _ _ c.next.new.self _ (rw (begun, c.zip-number-items.ensures.first) c.iter.ensures.rest)
    (rw begun c.zip-number-items.ensures.second.0) v.yielded_by _ c.in-Some.is c.next.ensures.steps in
    let w = c.wake_all-woken.ensures in
    let below = c.requires.2.below (length v.yielded) here.0 in
    let number = get_or a.numbers.now (length v.yielded) 0 in
    let value = get_or a.values.now (length v.yielded) 0 in
    let next : (moment : ℕ) → Changes 64 v.m c.overwrite.new.m (overwritten_block number value (block v.m 64)) (with_variable (owner_at 64 number) (λ x. input_to moment x value)) =
    λ moment. rw (← here.2 0, ← here.3 0) (c.overwrite.ensures moment) in
    let reached = rw (here.2 0) at w.0 in
    let more : length (v.yielded ++ ((c.in-Some.number, c.in-Some.value) ∷ [])) ≡ length v.yielded + 1 = length_push v.yielded (c.in-Some.number, c.in-Some.value) in (
      rw more (one_more_input a.numbers.now a.values.now (length v.yielded) here.0 (search rules) v.invariant.0 next),
      w.1,
      λ n h. reaches_then (v.invariant.2 n h) (input_reaches n _ _ below (h.below (length v.yielded) here.0) next reached),
    )

pub returns : goal.returns
returns c =
    let a = c.args in
    let v = c.loop-number in
    let begun = c.into_iter-number-iterator.ensures.into_iter_gives in
    let all = zip_end a.numbers.now a.values.now v.yielded _ _ c.next.new.self _ (rw (begun, c.zip-number-items.ensures.first) c.iter.ensures.rest)
    (rw begun c.zip-number-items.ensures.second.0) v.yielded_by c.in-None.is c.next.ensures.steps in
    let z : length v.yielded ≡ length a.numbers.now = omega (arith, all, c.requires.1) in
    (v.invariant.1, λ n h. (inputs_done a.numbers.now a.values.now (rw z at v.invariant.0) n h, v.invariant.2 n h))
