-- `engine_fill_row::row::fill_row` meets its contract.
use mathlib.Core.Path.{sym, ap, subst, ◌∙◌}
use Prim.Native.Nat.{ℕ, ◌<◌}
use native.Mathlib.Omega.{arith}
use Rattle.walk.specs.Walk.{instruction_at}
use Rattle.table.specs.Decode.{word, size_of, table_listing}
use Rattle.engine_rows.specs.Records.{is_wait}
use Rattle.engine_new_rows.specs.NewRow.{Reaches}
use Rattle.engine_children.proofs.ChildSteps.{callee_small}
use Rattle.engine_fill_row.proofs.WorkingRows.{names_may_bind, child_row_filled}
use Rattle.engine_fill_row.proofs.row.fill_row.Goals as goal

pub opening_of-opening-requires : goal.opening_of-opening-requires
opening_of-opening-requires c = let M = c.requires in (M.table, subst (λ (r : ℕ). r < word c.args.t.now 2) (sym M.called) M.field.callee)

pub place-place-requires : goal.place-place-requires
place-place-requires c = (c.requires.size, c.requires.slot)

pub wait_mark-asleep-requires : goal.wait_mark-asleep-requires
wait_mark-asleep-requires c =
    let M = c.requires in
    (M.table, subst (λ (r : ℕ). r < word c.args.t.now 2) (sym M.called) M.field.callee, subst (λ (x : ℕ). x < size_of c.args.t.now c.args.callee) (sym c.place-place.ensures) M.place)

pub child-i-requires : goal.child-i-requires
child-i-requires c = (c.requires.size, c.requires.slot)

pub overflow_cast-callee : goal.overflow_cast-callee
overflow_cast-callee c = omega (arith, callee_small c.requires.table c.requires.field c.requires.called)

pub put_working-requires : goal.put_working-requires
put_working-requires c =
    let M = c.requires in
    (M.size, M.slot, M.least, subst (λ (i : ℕ). Reaches c.args.parent i) (sym c.child-i.ensures) M.reaches)

pub overflow_add-head : goal.overflow_add-head
overflow_add-head c = omega (arith, c.requires.field.arguments.inside)

pub bind_names-requires : goal.bind_names-requires
bind_names-requires c = names_may_bind c.requires c.opening_of-opening.ensures.1 c.put_working.ensures

pub shape_of-m : goal.shape_of-m
shape_of-m c = omega (arith, c.put_working.ensures.size, c.bind_names.ensures.in_block.size)

pub returns : goal.returns
returns c =
    let a = c.args in
    let M = c.requires in
    child_row_filled M c.opening_of-opening.ensures.1 c.wait_mark-asleep.result
    (c.wait_mark-asleep.ensures ∙ ap (λ (x : ℕ). is_wait (instruction_at (table_listing a.t.now) a.callee x)) c.place-place.ensures)
    (rw c.child-i.ensures at c.put_working.ensures) c.bind_names.ensures
