-- `book_writes::as_in_trace` meets its contract.
use borrow.Author.Tests.{eq-eqb, ne_eqb}
use Rattle.book_writes.proofs.as_in_trace.Goals as goal

pub returns-then-b-eq79 : goal.returns-then-b-eq79
returns-then-b-eq79 c = rw (eq-eqb _ _ c.if-b-eq79.true)

pub returns : goal.returns
returns c = rw (ne_eqb _ _ c.if-b-eq79.false)
