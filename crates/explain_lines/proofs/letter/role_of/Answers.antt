-- `explain_lines::letter::role_of` meets its contract.
use borrow.Author.Tests.{eq-eqb, ne_eqb}
use Rattle.explain_lines.specs.Letters.{role_of}
use Rattle.explain_lines.proofs.letter.role_of.Goals as goal

pub returns-then-letter-eq87 : goal.returns-then-letter-eq87
unfolding role_of
returns-then-letter-eq87 c = rw (eq-eqb _ 87 c.if-letter-eq87.true)

pub returns-then-letter-eq70 : goal.returns-then-letter-eq70
unfolding role_of
returns-then-letter-eq70 c = rw (ne_eqb _ 87 c.if-letter-eq87.false, eq-eqb _ 70 c.if-letter-eq70.true)

pub returns-then-number-eq1 : goal.returns-then-number-eq1
unfolding role_of
returns-then-number-eq1 c = rw (ne_eqb _ 87 c.if-letter-eq87.false, ne_eqb _ 70 c.if-letter-eq70.false, eq-eqb _ 1 c.if-number-eq1.true) c.first_role.ensures

pub returns : goal.returns
unfolding role_of
returns c = rw (ne_eqb _ 87 c.if-letter-eq87.false, ne_eqb _ 70 c.if-letter-eq70.false, ne_eqb _ 1 c.if-number-eq1.false) c.later_role.ensures
