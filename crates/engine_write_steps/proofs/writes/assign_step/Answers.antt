-- `assign_step` meets its contract.
use mathlib.Core.Path.{◌≡◌, refl, ap, subst}
use Prim.Native.Nat.{ℕ, suc, ◌+◌, ◌<◌}
use native.Mathlib.Numerals.{add-one}
use native.Mathlib.Omega.{arith}
use borrow.Author.Rules.{rules}
use Rattle.walk.specs.State.{Variable, written_to}
use Rattle.table.specs.Decode.{pieces_at}
use Rattle.engine_rows.specs.Rows.{Row}
use Rattle.engine_rows.specs.Ready.{insert_all_lem}
use Rattle.engine_rows.specs.Triggers.{triggered}
use Rattle.engine_blocks.specs.Blocks.{rows_of}
use Rattle.engine_ready.specs.Slots.{slots_of}
use Rattle.engine_triggers.specs.Chains.{triggers_at}
use Rattle.engine_values.proofs.Values.{value_given, none_given}
use Rattle.engine_evaluate.proofs.Names.{names_few}
use Rattle.engine_steps.specs.declared.running.Running.{Running}
use Rattle.engine_steps.proofs.Stores.{placed_as}
use Rattle.engine_write_steps.proofs.Writing.{changes_name, assigned_all}
use Rattle.engine_write_steps.proofs.Changing.{assigns, assign_fails}
use Rattle.engine_write_steps.proofs.writes.assign_step.Goals as goal

pub returns-then-value-ge-NO_VALUE : goal.returns-then-value-ge-NO_VALUE
returns-then-value-ge-NO_VALUE c =
    λ listing moment.
    let a = c.args in
    let v = c.evaluate-value.result in
    assign_fails listing moment _ a.running _ a.name (pieces_at a.t.now a.cells a.pieces) (rw (none_given v c.if-value-ge-NO_VALUE.true) at c.evaluate-value.ensures.0)

pub owner-binding-requires : goal.owner-binding-requires
owner-binding-requires c =
    let few = names_few c.args.m.now c.args.running.me c.requires.0.changes.runs.slot in
    let there = c.requires.0.changes.there in
    (c.requires.0.changes.runs.size, c.requires.0.changes.runs.slot, omega arith)

pub overflow_add-next : goal.overflow_add-next
overflow_add-next c =
    let e = c.place-next.ensures in
    let n = c.requires.0.changes.runs.next in
    record { fits = omega arith }

pub returns : goal.returns
returns c =
    λ listing moment.
    let a = c.args in
    let u = a.running in
    let value = c.evaluate-value.result in
    let small : value < 4294967296 = omega (arith, c.if-value-ge-NO_VALUE.false) in
    let binding = c.owner-binding.result in
    let bound = c.owner-binding.ensures in
    let few = c.requires.0.changes.there in
    let here = (rows_of a.m.now u.me).place in
    let next : c.place-next.result + 1 ≡ suc here = rw add-one (ap suc c.place-next.ensures) in
    let p = c.assign.ensures moment in
    let q = placed_as (c.place-next.result + 1) (suc here) next c.set_place.ensures in
    let changed = changes_name u.me a.name binding bound few c.requires.0.changes.runs.slot (λ (y : Variable). written_to moment y value) p q
    (λ n there. assigned_all binding.index bound.block there value p) in
    let woken = c.wake-ready in
    let low = c.low-low in
    let ready = subst (λ (k : ℕ). slots_of woken.result ≡ insert_all_lem (rows_of a.m.now) (triggered (rows_of a.m.now) k (triggers_at a.m.now binding.block binding.index)) (slots_of u.ready)) low.ensures woken.ensures.0 in
    assigns listing moment u (record { ready = c.wake-ready.result; live = u.live; woken = u.woken; me = u.me }) a.name value
    (pieces_at a.t.now a.cells a.pieces) binding changed bound few (rw (value_given value small) at c.evaluate-value.ensures.0) ready refl refl refl
