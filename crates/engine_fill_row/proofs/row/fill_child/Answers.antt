-- `engine_fill_row::row::fill_child` meets its contract.
use native.Mathlib.Omega.{arith}
use Rattle.engine_fill_row.proofs.ChildFilled.{count_divides, may_fill_row, child_filled}
use Rattle.engine_fill_row.proofs.row.fill_child.Goals as goal

pub overflow_cast-field : goal.overflow_cast-field
overflow_cast-field c = omega (arith, c.field_of-field.ensures.count, c.requires.2.divides.most)

pub parent_of-parent-requires : goal.parent_of-parent-requires
parent_of-parent-requires c = let M = c.requires.2 in (c.requires.1, M.parent, count_divides c.args.m.now M c.field_of-field.ensures)

pub children-count-requires : goal.children-count-requires
children-count-requires c = (c.requires.1, c.requires.2.parent)

pub overflow_add-count : goal.overflow_add-count
overflow_add-count c = omega (arith, c.children-count.ensures, c.requires.2.children)

pub set_children-requires : goal.set_children-requires
set_children-requires c = (c.requires.1, c.requires.2.parent)

pub fill_row-requires : goal.fill_row-requires
fill_row-requires c = may_fill_row c.args.m.now c.requires.2 c.field_of-field.ensures c.children-count.ensures c.parent_of-parent.ensures c.set_children.ensures c.requires.0 c.requires.1

pub shape_of-m : goal.shape_of-m
shape_of-m c = omega (arith, c.set_children.ensures.outside.size, c.fill_row.ensures.in_block.size)

pub returns : goal.returns
returns c = child_filled c.args.m.now c.requires.2 c.field_of-field.ensures c.children-count.ensures c.parent_of-parent.ensures c.set_children.ensures c.fill_row.ensures
