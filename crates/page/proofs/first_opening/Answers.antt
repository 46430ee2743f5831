-- `page::first_opening` meets its contract.
use native.Mathlib.Omega.{arith}
use Rattle.page.proofs.Paging as paging
use Rattle.page.proofs.first_opening.Goals as goal

pub returns-then-page-eq0 : goal.returns-then-page-eq0
returns-then-page-eq0 c = paging.first_none c.args.page c.if-page-eq0.true

pub returns-then-before : goal.returns-then-before
returns-then-before c = paging.first_far c.args.page c.if-page-eq0.false (omega (arith, c.if-before.true))

pub returns : goal.returns
returns c = paging.first_here c.args.page c.if-page-eq0.false (omega (arith, c.if-before.false))
