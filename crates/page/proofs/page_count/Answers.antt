-- `page::page_count` meets its contract.
use Rattle.page.proofs.Paging as paging
use Rattle.page.proofs.page_count.Goals as goal

pub returns-then-openings-eq0 : goal.returns-then-openings-eq0
returns-then-openings-eq0 c = paging.count_none c.args.openings c.if-openings-eq0.true

pub returns : goal.returns
returns c = paging.count_some c.args.openings c.if-openings-eq0.false
