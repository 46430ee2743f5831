-- `begin_instant` meets its contract. Letters for what is known after a call: o at the entry, p after `environment_size`, q `queue_waiting`, f `fill_rows`,
-- l `list_sleepers`, d `make_due_at`, w `write_inputs`.
use native.Mathlib.Omega.{arith}
use Rattle.walk.specs.Calls.{Words32}
use Rattle.table.proofs.Bounds.{bounds}
use Rattle.engine_begin.proofs.Composed.{size_of_table, may_begin_pass, may_list_sleepers, may_make_due, may_write_inputs, begun}
use borrow.Author.Rules.{rules}
use Rattle.engine_begin.proofs.instant.begin_instant.Goals as goal

pub environment_size-n-requires : goal.environment_size-n-requires
environment_size-n-requires c = omega (arith, (bounds c.args.t.now c.requires.table).words)

pub fill_rows-requires : goal.fill_rows-requires
fill_rows-requires c =
    let a = c.args in
    let small : Words32 a.m.now = λ k. omega (arith, c.slice_known-1.given k) in
    may_begin_pass a.t.now a.m.now a.present.0 a.dues.now a.numbers.now a.values.now c.requires small _ c.queue_waiting.ensures

pub list_sleepers-requires : goal.list_sleepers-requires
list_sleepers-requires c =
    let a = c.args in
    let small : Words32 a.m.now = λ k. omega (arith, c.slice_known-1.given k) in
    may_list_sleepers a.t.now a.m.now a.present.0 a.dues.now a.numbers.now a.values.now c.requires small _ c.queue_waiting.ensures _ c.fill_rows.ensures

pub make_due_at-due-requires : goal.make_due_at-due-requires
make_due_at-due-requires c =
    let a = c.args in
    let small : Words32 a.m.now = λ k. omega (arith, c.slice_known-1.given k) in
    may_make_due a.t.now a.m.now a.present.0 a.dues.now a.numbers.now a.values.now c.requires small _ c.queue_waiting.ensures _ c.fill_rows.ensures
    _ (size_of_table a.t.now c.requires.table _ c.environment_size-n.ensures) _ c.list_sleepers.ensures.0 _ c.empty.ensures.1

pub write_inputs-requires : goal.write_inputs-requires
write_inputs-requires c =
    let a = c.args in
    let small : Words32 a.m.now = λ k. omega (arith, c.slice_known-1.given k) in
    may_write_inputs a.t.now a.m.now a.present.0 a.dues.now a.numbers.now a.values.now c.requires small _ c.queue_waiting.ensures _ c.fill_rows.ensures
    _ (size_of_table a.t.now c.requires.table _ c.environment_size-n.ensures) _ c.list_sleepers.ensures.0 _ c.empty.ensures.1 _ _ c.make_due_at-due.ensures

pub returns : goal.returns
returns c =
    let a = c.args in
    let small : Words32 a.m.now = λ k. omega (arith, c.slice_known-1.given k) in
    begun a.t.now a.m.now a.present.0 a.dues.now a.numbers.now a.values.now c.requires small _ c.queue_waiting.ensures _ c.fill_rows.ensures
    _ (size_of_table a.t.now c.requires.table _ c.environment_size-n.ensures) _ c.list_sleepers.ensures.0 _ c.empty.ensures.1 _ _ c.make_due_at-due.ensures
    _ _ c.list_sleepers.ensures.1 c.write_inputs.ensures
