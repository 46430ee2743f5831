-- `explain_words::letter_flag` meets its contract.
use borrow.Author.Tests.{eq-eqb, ne_eqb}
use Rattle.explain_words.specs.Words.{letter_flag}
use Rattle.explain_words.proofs.letter_flag.Goals as goal

pub returns-then-letter-eq116 : goal.returns-then-letter-eq116
unfolding letter_flag
returns-then-letter-eq116 c = rw (eq-eqb _ 116 c.if-letter-eq116.true)

pub returns-then-letter-eq115 : goal.returns-then-letter-eq115
unfolding letter_flag
returns-then-letter-eq115 c = rw (ne_eqb _ 116 c.if-letter-eq116.false, eq-eqb _ 115 c.if-letter-eq115.true)

pub returns : goal.returns
unfolding letter_flag
returns c = rw (ne_eqb _ 116 c.if-letter-eq116.false, ne_eqb _ 115 c.if-letter-eq115.false)
