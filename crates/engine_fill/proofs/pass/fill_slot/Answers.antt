-- `engine_fill::pass::fill_slot` meets its contract.
use Rattle.engine_fill.proofs.Passes.{slot_main, slot_child}
use Rattle.engine_fill.proofs.pass.fill_slot.Goals as goal

pub fill_main-requires : goal.fill_main-requires
fill_main-requires c = (c.requires.0, c.requires.1, c.requires.2.main c.if-level-eq0.true)

pub returns-then-level-eq0 : goal.returns-then-level-eq0
returns-then-level-eq0 c = slot_main c.if-level-eq0.true c.fill_main.ensures

pub fill_child-requires : goal.fill_child-requires
fill_child-requires c = (c.requires.0, c.requires.1, c.requires.2.child c.if-level-eq0.false)

pub returns : goal.returns
returns c = slot_child _ c.if-level-eq0.false c.fill_child.ensures
