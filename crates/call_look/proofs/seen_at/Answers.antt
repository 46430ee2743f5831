-- `seen_at` meets its contract: 0 is no moment due.
use Rattle.call_look.proofs.Looking.{none_due, some_due}
use Rattle.call_look.proofs.seen_at.Goals as goal

pub returns-then-due-eq0 : goal.returns-then-due-eq0
returns-then-due-eq0 c = none_due _ _ c.if-due-eq0.true

pub returns : goal.returns
returns c = some_due _ _ c.if-due-eq0.false
