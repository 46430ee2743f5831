-- `engine_new_names::values::pass_values` meets its contract.
use native.Mathlib.Omega.{arith}
use Rattle.engine_new_names.proofs.Passing.{values_start, value_there, values_next, values_end}
use Rattle.engine_new_names.proofs.values.pass_values.Goals as goal

pub loop-j-init : goal.loop-j-init
loop-j-init c = values_start c.requires

pub overflow_mul-j : goal.overflow_mul-j
overflow_mul-j c = omega (arith, c.requires.binds.few, c.requires.binds.names.inside)

pub overflow_add-at : goal.overflow_add-at
overflow_add-at c = omega (arith, c.requires.binds.few, c.requires.binds.names.inside)

pub name_at-requires : goal.name_at-requires
name_at-requires c = let p = c.requires.binds in (p.table, omega (arith, p.names.inside, c.loop-j-test.true))

pub pass_value-own-requires : goal.pass_value-own-requires
pass_value-own-requires c =
    let p = c.requires in
    let v = c.loop-j in
    let there = value_there p v.invariant c.loop-j-test.true in
    (omega (arith, p.binds.size, v.invariant.in_block.size), p.binds.caller, p.binds.slot, rw c.name_at.ensures there, omega (arith, v.invariant.few, p.binds.few, c.loop-j-test.true))

pub loop-j-preserved : goal.loop-j-preserved
loop-j-preserved c =
    let p = c.requires in
    let v = c.loop-j in
    values_next p v.invariant c.loop-j-test.true (rw c.name_at.ensures at c.pass_value-own.ensures)

pub shape_of-m : goal.shape_of-m
shape_of-m c = c.loop-j.invariant.in_block.size

pub returns : goal.returns
returns c = values_end c.requires c.loop-j.invariant c.loop-j-test.false
