-- `page_book::leaves_valve` meets its contract.
use borrow.Author.Tests.{eq-eqb, ne_eqb}
use Rattle.page_book.specs.Book.{leaves_valve}
use Rattle.page_book.proofs.valves.leaves_valve.Goals as goal

pub returns-then-value-eq0 : goal.returns-then-value-eq0
unfolding leaves_valve
returns-then-value-eq0 c = rw (eq-eqb _ _ c.if-value-eq0.true)

pub returns : goal.returns
unfolding leaves_valve
returns c = rw (ne_eqb _ _ c.if-value-eq0.false)
