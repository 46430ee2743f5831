-- `call_conclude::ending::due_at` meets its contract.
use Rattle.call_conclude.proofs.Finished.{due_never, due_moment}
use Rattle.call_conclude.proofs.ending.due_at.Goals as goal

pub returns-then-due-eq0 : goal.returns-then-due-eq0
returns-then-due-eq0 c = due_never _ c.if-due-eq0.true

pub returns : goal.returns
returns c = due_moment _ c.if-due-eq0.false
