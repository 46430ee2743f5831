-- `explain_there::there::first_target` meets its contract.
use borrow.Author.Tests.{eq-eqb, ne_eqb}
use Rattle.explain_there.specs.There.{first_target}
use Rattle.explain_there.proofs.there.first_target.Goals as goal

pub returns-then-letter-eq70 : goal.returns-then-letter-eq70
unfolding first_target
returns-then-letter-eq70 c = rw (eq-eqb _ 70 c.if-letter-eq70.true)

pub returns-then-letter-eq71 : goal.returns-then-letter-eq71
unfolding first_target
returns-then-letter-eq71 c = rw (ne_eqb _ 70 c.if-letter-eq70.false, eq-eqb _ 71 c.if-letter-eq71.true)

pub returns-then-number-eq2 : goal.returns-then-number-eq2
unfolding first_target
returns-then-number-eq2 c = rw (ne_eqb _ 70 c.if-letter-eq70.false, ne_eqb _ 71 c.if-letter-eq71.false, eq-eqb _ 85 c.if-letter-eq85.true, eq-eqb _ 2 c.if-number-eq2.true)

pub returns-else-number-eq2 : goal.returns-else-number-eq2
unfolding first_target
returns-else-number-eq2 c = rw (ne_eqb _ 70 c.if-letter-eq70.false, ne_eqb _ 71 c.if-letter-eq71.false, eq-eqb _ 85 c.if-letter-eq85.true, ne_eqb _ 2 c.if-number-eq2.false)

pub returns-else-letter-eq85 : goal.returns-else-letter-eq85
unfolding first_target
returns-else-letter-eq85 c = rw (ne_eqb _ 70 c.if-letter-eq70.false, ne_eqb _ 71 c.if-letter-eq71.false, ne_eqb _ 85 c.if-letter-eq85.false)
