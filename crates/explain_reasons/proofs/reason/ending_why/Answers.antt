-- `explain_reasons::reason::ending_why` meets its contract.
use borrow.Author.Tests.{eq-eqb, ne_eqb}
use Rattle.explain_reasons.specs.Faults.{ending_why}
use Rattle.explain_reasons.proofs.reason.ending_why.Goals as goal

pub returns-then-first_byte-eq82 : goal.returns-then-first_byte-eq82
unfolding ending_why
returns-then-first_byte-eq82 c = rw (← c.first_byte.ensures, eq-eqb _ 82 c.if-first_byte-eq82.true)

pub returns : goal.returns
unfolding ending_why
returns c = rw (← c.first_byte.ensures, ne_eqb _ 82 c.if-first_byte-eq82.false)
