-- `explain_there::around::kinds_count` meets its contract.
use native.Mathlib.Omega.{arith}
use borrow.Author.Tests.{eq-eqb, ne_eqb}
use Rattle.explain_there.specs.Arounds.{kinds_count}
use Rattle.explain_there.proofs.around.kinds_count.Goals as goal

pub returns-then-first_byte-eq45 : goal.returns-then-first_byte-eq45
unfolding kinds_count
returns-then-first_byte-eq45 c = (rw (← c.first_byte.ensures, eq-eqb _ 45 c.if-first_byte-eq45.true), omega arith)

pub returns : goal.returns
unfolding kinds_count
returns c = (rw (← c.first_byte.ensures, ne_eqb _ 45 c.if-first_byte-eq45.false), omega arith)
