-- `explain_lines::letter::later_role` meets its contract.
use borrow.Author.Tests.{ne_eqb}
use Rattle.explain_lines.specs.Letters.{later_role}
use Rattle.explain_lines.proofs.letter.later_role.Goals as goal

pub returns-then-letter-eq83 : goal.returns-then-letter-eq83
unfolding later_role
returns-then-letter-eq83 c = rw c.if-letter-eq83.true

pub returns-then-letter-eq65 : goal.returns-then-letter-eq65
unfolding later_role
returns-then-letter-eq65 c = rw c.if-letter-eq65.true

pub returns : goal.returns
unfolding later_role
returns c = rw (ne_eqb _ 83 c.if-letter-eq83.false, ne_eqb _ 65 c.if-letter-eq65.false)
