-- `engine_write_steps::writes::assign_on` meets its contract.
use mathlib.Core.Path.{◌≡◌, refl, sym, ap, ◌∙◌}
use Prim.Native.Nat.{ℕ, suc, ◌+◌, ◌<◌}
use native.Mathlib.Numerals.{add-one}
use native.Mathlib.Omega.{arith}
use borrow.Author.Rules.{rules}
use Rattle.walk.specs.State.{Variable, written_to}
use Rattle.table.specs.Decode.{pieces_at}
use Rattle.engine_rows.specs.Rows.{Row}
use Rattle.engine_blocks.specs.Blocks.{rows_of}
use Rattle.engine_values.proofs.Values.{value_given, none_given}
use Rattle.engine_evaluate.proofs.Names.{names_few}
use Rattle.engine_steps.specs.Outcome.{GoesOn, NeedsReady, Onwards}
use Rattle.engine_steps.proofs.Stores.{placed_as}
use Rattle.engine_write_steps.proofs.Writing.{changes_name, assigned_all, place_named, routine_named}
use Rattle.engine_write_steps.proofs.Changing.{assigns_alone, assign_fails_alone, nobody_listed}
use Rattle.engine_write_steps.proofs.writes.assign_on.Goals as goal

pub owner-binding-requires : goal.owner-binding-requires
owner-binding-requires c =
    let few = names_few c.args.m.now c.args.me c.requires.0.runs.slot in
    let there = c.requires.0.there in
    (c.requires.0.runs.size, c.requires.0.runs.slot, omega arith)

pub returns-then-word_at-ne0 : goal.returns-then-word_at-ne0
unfolding Onwards NeedsReady
returns-then-word_at-ne0 c = λ listing moment. (refl, omega arith)

pub returns-then-value-ge-NO_VALUE : goal.returns-then-value-ge-NO_VALUE
unfolding Onwards
returns-then-value-ge-NO_VALUE c =
    λ listing moment.
    let a = c.args in
    let v = c.evaluate-value.result in
    assign_fails_alone listing moment _ _ a.name (pieces_at a.t.now a.cells a.pieces) (rw (none_given v c.if-value-ge-NO_VALUE.true) at c.evaluate-value.ensures.0)

pub returns : goal.returns
unfolding Onwards GoesOn
returns c =
    λ listing moment.
    let a = c.args in
    let value = c.evaluate-value.result in
    let small : value < 4294967296 = omega (arith, c.if-value-ge-NO_VALUE.false) in
    let binding = c.owner-binding.result in
    let bound = c.owner-binding.ensures in
    let few = c.requires.0.there in
    let here = (rows_of a.m.now a.me).place in
    let next : a.place + 1 ≡ suc here = rw add-one (ap suc c.requires.0.runs.here) in
    let p = c.assign.ensures moment in
    let q = placed_as (a.place + 1) (suc here) next c.set_place.ensures in
    let changed = changes_name a.me a.name binding bound few c.requires.0.runs.slot (λ (y : Variable). written_to moment y value) p q
    (λ n there. assigned_all binding.index bound.block there value p) in
    let nobody = nobody_listed a.m.now binding.block binding.index (sym c.word_at.ensures ∙ c.if-word_at-ne0.false) in (
      place_named changed 0 ∙ sym next,
      routine_named changed 0,
      assigns_alone listing moment a.me a.name value (pieces_at a.t.now a.cells a.pieces) binding changed bound few
          (rw (value_given value small) at c.evaluate-value.ensures.0) nobody,
    )
