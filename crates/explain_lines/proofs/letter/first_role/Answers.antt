-- `explain_lines::letter::first_role` meets its contract.
use borrow.Author.Tests.{ne_eqb}
use Rattle.explain_lines.specs.Letters.{first_role}
use Rattle.explain_lines.proofs.letter.first_role.Goals as goal

pub returns-then-letter-eq82 : goal.returns-then-letter-eq82
unfolding first_role
returns-then-letter-eq82 c = rw c.if-letter-eq82.true

pub returns-then-letter-eq85 : goal.returns-then-letter-eq85
unfolding first_role
returns-then-letter-eq85 c = rw c.if-letter-eq85.true

pub returns : goal.returns
unfolding first_role
returns c = rw (ne_eqb _ 82 c.if-letter-eq82.false, ne_eqb _ 85 c.if-letter-eq85.false)
