-- `explain_there::around::around_line` meets its contract.
use borrow.Author.Tests.{eq-eqb, ne_eqb, le-leb, lt-leb}
use Rattle.explain_there.specs.Arounds.{around_line}
use Rattle.explain_there.proofs.around.around_line.Goals as goal

pub returns-then-place-held : goal.returns-then-place-held
unfolding around_line
returns-then-place-held c = rw (← c.first_byte-letter.ensures, eq-eqb _ 82 c.if-letter-eq82.true, le-leb _ _ c.if-place-held.true)

pub returns-then-letter-eq82 : goal.returns-then-letter-eq82
unfolding around_line
returns-then-letter-eq82 c = rw (← c.first_byte-letter.ensures, eq-eqb _ 82 c.if-letter-eq82.true, lt-leb _ _ c.if-place-held.false)

pub returns-then-letter-eq0 : goal.returns-then-letter-eq0
unfolding around_line
returns-then-letter-eq0 c = rw (← c.first_byte-letter.ensures, ne_eqb _ 82 c.if-letter-eq82.false, eq-eqb _ 0 c.if-letter-eq0.true)

pub returns-then-held : goal.returns-then-held
unfolding around_line
returns-then-held c = rw (← c.first_byte-letter.ensures, ne_eqb _ 82 c.if-letter-eq82.false, ne_eqb _ 0 c.if-letter-eq0.false, c.if-held.true)

pub returns : goal.returns
unfolding around_line
returns c = rw (← c.first_byte-letter.ensures, ne_eqb _ 82 c.if-letter-eq82.false, ne_eqb _ 0 c.if-letter-eq0.false, c.if-held.false)
