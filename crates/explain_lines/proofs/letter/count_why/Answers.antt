-- `explain_lines::letter::count_why` meets its contract.
use borrow.Author.Tests.{eq-eqb, ne_eqb}
use Rattle.explain_lines.specs.Letters.{count_why}
use Rattle.explain_lines.proofs.letter.count_why.Goals as goal

pub returns-then-letter-eq70 : goal.returns-then-letter-eq70
unfolding count_why
returns-then-letter-eq70 c = rw (eq-eqb _ 70 c.if-letter-eq70.true)

pub returns : goal.returns
unfolding count_why
returns c = rw (ne_eqb _ 70 c.if-letter-eq70.false)
