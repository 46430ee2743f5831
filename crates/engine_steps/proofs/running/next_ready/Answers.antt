-- `next_ready` meets its contract.
use mathlib.Core.Path.{◌≡◌, refl, sym, ap, ◌∙◌}
use mathlib.Core.Bool.{true, false}
use Prim.Native.Nat.{ℕ, suc, ◌+◌, ◌<◌}
use native.Mathlib.Numerals.{add-one}
use native.Mathlib.Omega.{arith}
use borrow.Author.Rules.{rules}
use borrow.Author.Tests.{eqb-true, eqb-false}
use Rattle.engine_rows.specs.Rows.{Row}
use Rattle.engine_rows.specs.Engine.{first_place, count_if}
use Rattle.engine_blocks.specs.Blocks.{rows_of}
use Rattle.engine_steps.specs.declared.running.Running.{Running}
use Rattle.engine_steps.proofs.Going.{first_small, pops_none, pops_first}
use Rattle.engine_steps.proofs.running.next_ready.Goals as goal

pub returns-then-is_empty : goal.returns-then-is_empty
returns-then-is_empty c =
    let a = c.args in
    pops_none a.m.now a.running (eqb-true _ _ (sym c.is_empty.ensures ∙ c.if-is_empty.true))

pub pop-popped-requires : goal.pop-popped-requires
pop-popped-requires c =
    let some : c.args.running.ready.count ≡ 0 → ⊥ = eqb-false _ _ (sym c.is_empty.ensures ∙ c.if-is_empty.false) in
    search rules

pub place-place-requires : goal.place-place-requires
place-place-requires c = let small : c.pop-popped.result.slot < 64 = first_small c.requires.slots c.pop-popped.ensures.1 in search rules

pub asleep-requires : goal.asleep-requires
asleep-requires c = let small : c.pop-popped.result.slot < 64 = first_small c.requires.slots c.pop-popped.ensures.1 in search rules

pub overflow_add-place : goal.overflow_add-place
overflow_add-place c =
    let e = c.place-place.ensures in
    let bound = c.requires.sleepers c.pop-popped.result.slot (sym c.asleep.ensures ∙ c.if-asleep.true) in
    record { fits = omega arith }

pub set_place-requires : goal.set_place-requires
set_place-requires c = let small : c.pop-popped.result.slot < 64 = first_small c.requires.slots c.pop-popped.ensures.1 in search rules

pub returns-then-asleep : goal.returns-then-asleep
unfolding first_place count_if
returns-then-asleep c =
    let u = c.args.running in
    let s = c.pop-popped.result.slot in
    let row = rows_of c.args.m.now s in
    let up : row.asleep ≡ true = sym c.asleep.ensures ∙ c.if-asleep.true in
    let small : s < 64 = first_small c.requires.slots c.pop-popped.ensures.1 in
    let place : c.place-place.result + 1 ≡ first_place row.asleep row.place = rw (up, add-one) (ap suc c.place-place.ensures) in
    let woken : u.woken + 1 ≡ count_if row.asleep u.woken = rw (up, add-one) in
    pops_first (c.place-place.result + 1) c.set_place.ensures small u
    (record { ready = c.pop-popped.result.rest; live = u.live; woken = u.woken + 1; me = s }) c.pop-popped.ensures.1 refl refl place woken

pub set_place-requires-2 : goal.set_place-requires-2
set_place-requires-2 c = let small : c.pop-popped.result.slot < 64 = first_small c.requires.slots c.pop-popped.ensures.1 in search rules

pub returns : goal.returns
unfolding first_place count_if
returns c =
    let u = c.args.running in
    let s = c.pop-popped.result.slot in
    let row = rows_of c.args.m.now s in
    let up : row.asleep ≡ false = sym c.asleep.ensures ∙ c.if-asleep.false in
    let small : s < 64 = first_small c.requires.slots c.pop-popped.ensures.1 in
    let place : c.place-place.result ≡ first_place row.asleep row.place = rw up c.place-place.ensures in
    let woken : u.woken ≡ count_if row.asleep u.woken = rw up in
    pops_first c.place-place.result c.set_place-2.ensures small u
    (record { ready = c.pop-popped.result.rest; live = u.live; woken = u.woken; me = s }) c.pop-popped.ensures.1 refl refl place woken
