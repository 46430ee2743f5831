-- `engine_write_steps::writes::schedule_at` meets its contract.
use mathlib.Core.Path.{◌≡◌, ap}
use Prim.Native.Nat.{◌+◌, suc}
use native.Mathlib.Numerals.{add-one}
use native.Mathlib.Omega.{arith}
use Rattle.walk.specs.State.{Variable, scheduled_on}
use Rattle.engine_blocks.specs.Blocks.{rows_of}
use Rattle.engine_blocks.proofs.Queued.{then_queued}
use Rattle.engine_evaluate.proofs.Names.{names_few}
use Rattle.engine_steps.proofs.Stores.{placed_as}
use Rattle.engine_write_steps.proofs.Writing.{scheduled_all, changes_name}
use borrow.Author.Rules.{rules}
use Rattle.engine_write_steps.proofs.writes.schedule_at.Goals as goal

pub owner-binding-requires : goal.owner-binding-requires
owner-binding-requires c =
    let few = names_few c.args.m.now c.args.me c.requires.0.runs.slot in
    let there = c.requires.0.there in
    (c.requires.0.runs.size, c.requires.0.runs.slot, omega arith)

pub returns : goal.returns
returns c =
    let a = c.args in
    let binding = c.owner-binding.result in
    let bound = c.owner-binding.ensures in
    let here = (rows_of a.m.now a.me).place in
    let next : a.place + 1 ≡ suc here = rw add-one (ap suc c.requires.0.runs.here) in
    let p = then_queued bound.block c.schedule.ensures c.put_word.ensures in
    let q = placed_as (a.place + 1) (suc here) next c.set_place.ensures in
    changes_name a.me a.name binding bound c.requires.0.there c.requires.0.runs.slot (λ (y : Variable). scheduled_on y a.moment.0 a.value) p q
    (λ n there. scheduled_all binding.index bound.block there a.moment.0 a.value c.requires.1 p)
