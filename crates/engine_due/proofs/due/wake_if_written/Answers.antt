-- `engine_due::due::wake_if_written` meets its contract.
use borrow.Author.Rules.{rules}
use Rattle.engine_ready.specs.Slots.{slots_of}
use Rattle.engine_due.proofs.ReachedBlocks.{passed, not_passed}
use Rattle.engine_due.proofs.due.wake_if_written.Goals as goal

pub returns-then-written : goal.returns-then-written
returns-then-written c =
    let a = c.args in
    passed a.m.now a.s a.index (slots_of a.ready) _ _ c.if-written.true c.written.ensures.word c.wake_all.ensures.0 c.wake_all.ensures.1

pub returns : goal.returns
returns c =
    let a = c.args in
    not_passed a.m.now a.s a.index (slots_of a.ready) _ c.if-written.false c.written.ensures.word (search rules)
