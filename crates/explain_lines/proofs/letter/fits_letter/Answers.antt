-- `explain_lines::letter::fits_letter` meets its contract.
use mathlib.Core.Path.{ap}
use borrow.Author.Tests.{eq-eqb, ne_eqb}
use Rattle.explain_lines.specs.Letters.{fits_letter, counts}
use Rattle.explain_lines.proofs.letter.fits_letter.Goals as goal

pub returns-then-count-eq0 : goal.returns-then-count-eq0
unfolding fits_letter
returns-then-count-eq0 c = rw (eq-eqb _ 70 c.if-letter-eq70.true, eq-eqb _ 0 c.if-count-eq0.true)

pub returns-then-letter-eq70 : goal.returns-then-letter-eq70
unfolding fits_letter
returns-then-letter-eq70 c = rw (eq-eqb _ 70 c.if-letter-eq70.true, ne_eqb _ 0 c.if-count-eq0.false)

pub returns-in-Some : goal.returns-in-Some
unfolding fits_letter
returns-in-Some c = rw (ne_eqb _ 70 c.if-letter-eq70.false) (ap (counts c.args.count) c.in-Some.ensures)

pub returns-in-None : goal.returns-in-None
unfolding fits_letter
returns-in-None c = rw (ne_eqb _ 70 c.if-letter-eq70.false) (ap (counts c.args.count) c.in-None.ensures)
