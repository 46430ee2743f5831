-- `explain_lines::letter::stands_why` meets its contract.
use borrow.Author.Tests.{eq-eqb, ne_eqb, le-leb, lt-leb}
use Rattle.explain_lines.specs.Letters.{stands_why}
use Rattle.explain_lines.proofs.letter.stands_why.Goals as goal

pub returns-then-number-eq1 : goal.returns-then-number-eq1
unfolding stands_why
returns-then-number-eq1 c = rw (eq-eqb _ 80 c.if-letter-eq80.true, eq-eqb _ 1 c.if-number-eq1.true)

pub returns-then-letter-eq80 : goal.returns-then-letter-eq80
unfolding stands_why
returns-then-letter-eq80 c = rw (eq-eqb _ 80 c.if-letter-eq80.true, ne_eqb _ 1 c.if-number-eq1.false)

pub returns-then-number-le1 : goal.returns-then-number-le1
unfolding stands_why
returns-then-number-le1 c = rw (ne_eqb _ 80 c.if-letter-eq80.false, le-leb _ 1 c.if-number-le1.true)

pub returns-then-letter-eq82 : goal.returns-then-letter-eq82
unfolding stands_why
returns-then-letter-eq82 c = rw (ne_eqb _ 80 c.if-letter-eq80.false, lt-leb _ 1 c.if-number-le1.false, eq-eqb _ 82 c.if-letter-eq82.true)

pub returns-then-number-le2 : goal.returns-then-number-le2
unfolding stands_why
returns-then-number-le2 c = rw (ne_eqb _ 80 c.if-letter-eq80.false, lt-leb _ 1 c.if-number-le1.false, ne_eqb _ 82 c.if-letter-eq82.false, le-leb _ 2 c.if-number-le2.true)

pub returns : goal.returns
unfolding stands_why
returns c = rw (ne_eqb _ 80 c.if-letter-eq80.false, lt-leb _ 1 c.if-number-le1.false, ne_eqb _ 82 c.if-letter-eq82.false, lt-leb _ 2 c.if-number-le2.false)
