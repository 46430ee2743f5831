-- `machine_words::due_later` meets its contract.
use borrow.Author.Tests.{ne_eqb}
use Rattle.machine_words.proofs.due_later.Goals as goal

pub returns : goal.returns
returns c = rw (ne_eqb _ _ c.if-due-eq0.false)
