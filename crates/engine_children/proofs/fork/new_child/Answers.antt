-- `engine_children::fork::new_child` meets its contract.
use native.Mathlib.Omega.{arith}
use Rattle.engine_new_names.proofs.OwnNames.{changed_then}
use Rattle.engine_new_rows.proofs.Priorities.{reaches_child}
use Rattle.engine_children.proofs.ChildSteps.{table_size_lem, callee_small, argument_count_lem, head_inside, still_long, may_divide, may_bind, may_pass}
use Rattle.engine_children.proofs.ChildMade.{child_made}
use Rattle.engine_children.proofs.fork.new_child.Goals as goal

pub head_at-field-requires : goal.head_at-field-requires
head_at-field-requires c = let M = c.requires in (table_size_lem c.args.t.now M.table, head_inside M)

pub opening_of-opening-requires : goal.opening_of-opening-requires
opening_of-opening-requires c = let M = c.requires in (M.table, rw c.head_at-field.ensures.1 M.field.callee)

pub overflow_add-head : goal.overflow_add-head
overflow_add-head c = omega (arith, head_inside c.requires)

pub pass_values-own-requires : goal.pass_values-own-requires
pass_values-own-requires c =
    let M = c.requires in
    let O = c.opening_of-opening.ensures.1 in
    may_pass M (argument_count_lem M.field c.head_at-field.ensures.1 O) (omega (arith, O.names))

pub parent_of-parent-requires : goal.parent_of-parent-requires
parent_of-parent-requires c =
    let M = c.requires in
    let p = c.pass_values-own.ensures.in_block in
    (still_long M p, M.caller, may_divide M p)

pub overflow_add-own : goal.overflow_add-own
overflow_add-own c = omega (arith, c.pass_values-own.ensures.few, c.opening_of-opening.ensures.1.names)

pub overflow_cast-own : goal.overflow_cast-own
overflow_cast-own c = omega (arith, c.pass_values-own.ensures.few, c.opening_of-opening.ensures.1.names)

pub put_kept-requires : goal.put_kept-requires
put_kept-requires c =
    let M = c.requires in
    let p = c.pass_values-own.ensures.in_block in
    (still_long M p, M.slot)

pub overflow_cast-callee : goal.overflow_cast-callee
overflow_cast-callee c = omega (arith, callee_small c.requires.table c.requires.field c.head_at-field.ensures.1)

pub put_working-requires : goal.put_working-requires
put_working-requires c =
    let M = c.requires in
    let p = c.pass_values-own.ensures.in_block in
    let P = c.parent_of-parent.ensures in
    (still_long M (changed_then p c.put_kept.ensures), M.slot, omega (arith, P.slot, M.caller), reaches_child c.args.i (may_divide M p) P M.numbered)

pub overflow_add-head-2 : goal.overflow_add-head-2
overflow_add-head-2 c = omega (arith, head_inside c.requires)

pub bind_names-requires : goal.bind_names-requires
bind_names-requires c =
    let M = c.requires in
    let O = c.opening_of-opening.ensures.1 in
    let p = c.pass_values-own.ensures.in_block in
    may_bind M (changed_then (changed_then p c.put_kept.ensures) c.put_working.ensures) (argument_count_lem M.field c.head_at-field.ensures.1 O) O.names

pub shape_of-m : goal.shape_of-m
shape_of-m c = omega (arith, c.pass_values-own.ensures.in_block.size, c.put_kept.ensures.size, c.put_working.ensures.size, c.bind_names.ensures.in_block.size)

pub returns : goal.returns
returns c =
    child_made (record {
      may = c.requires;
      called = c.head_at-field.ensures.1;
      opened = c.opening_of-opening.ensures.1;
      values = c.pass_values-own.ensures;
      parent = c.parent_of-parent.ensures;
      kept = c.put_kept.ensures;
      working = c.put_working.ensures;
      named = c.bind_names.ensures;
    })
