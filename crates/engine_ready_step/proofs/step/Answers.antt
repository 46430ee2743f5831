-- `step` meets its contract.
use mathlib.Core.Path.{◌≡◌, ◌∙◌}
use Prim.Native.Nat.{◌<◌}
use borrow.Author.Rules.{rules}
use Rattle.table.specs.Decode.{word, size_of}
use Rattle.table_read.proofs.Fetching.{has_entry, entry_fetched}
use Rattle.engine_rows.specs.Rows.{Row}
use Rattle.engine_blocks.specs.Blocks.{rows_of}
use Rattle.engine_ready_step.proofs.step.Goals as goal

pub routine-requires : goal.routine-requires
routine-requires c = (c.requires.0.pops.size, c.requires.0.slot)

pub place-requires : goal.place-requires
place-requires c = (c.requires.0.pops.size, c.requires.0.slot)

pub fetch-entry-requires : goal.fetch-entry-requires
fetch-entry-requires c =
    let a = c.args in
    let row = rows_of a.m.now a.running.me in
    let routine : c.number-routine.result ≡ row.routine = c.number-routine.ensures.0 ∙ c.routine.ensures in
    let place : c.number-place.result ≡ row.place = c.number-place.ensures.0 ∙ c.place.ensures in
    has_entry a.t.now c.requires.0.table _ (rw routine c.requires.0.routine) _ (rw (place, routine) c.requires.0.place)

pub execute-requires : goal.execute-requires
execute-requires c =
    let a = c.args in
    let row = rows_of a.m.now a.running.me in
    let routine : c.number-routine.result ≡ row.routine = c.number-routine.ensures.0 ∙ c.routine.ensures in
    let place : c.number-place.result ≡ row.place = c.number-place.ensures.0 ∙ c.place.ensures in
    let there : c.number-routine.result < word a.t.now 2 = rw routine c.requires.0.routine in
    let within : c.number-place.result < size_of a.t.now c.number-routine.result = rw (place, routine) c.requires.0.place in
    (c.requires.0, c.requires.1, rw (routine, place) at (entry_fetched a.t.now c.requires.0.table c.number-routine.result there c.number-place.result within c.fetch-entry.result c.fetch-entry.ensures))

pub returns : goal.returns
returns c = c.execute.ensures
