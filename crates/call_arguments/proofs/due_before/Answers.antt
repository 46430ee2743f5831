-- `call_arguments::due_before` meets its contract.
use Rattle.call_arguments.proofs.Asking.{none_due, some_due}
use Rattle.call_arguments.proofs.due_before.Goals as goal

pub returns-then-due-eq0 : goal.returns-then-due-eq0
returns-then-due-eq0 c = none_due _ _ c.if-due-eq0.true

pub returns : goal.returns
returns c = some_due _ _ c.if-due-eq0.false
