-- `page_book::open_row` meets its contract.
use mathlib.Core.Path.{◌∙◌}
use Rattle.page_book.proofs.Entering as entering
use Rattle.page_book.proofs.valves.open_row.Goals as goal

pub returns-then-line-eq0 : goal.returns-then-line-eq0
returns-then-line-eq0 c = entering.none_opened c.args.memory.now c.args.line c.args.output c.args.moment c.if-line-eq0.true

pub returns-then-line-ge-ELSEWHERE : goal.returns-then-line-ge-ELSEWHERE
returns-then-line-ge-ELSEWHERE c = entering.opened_elsewhere_lem c.args.memory.now c.args.line c.args.output c.args.moment c.if-line-ge-ELSEWHERE.true

pub returns : goal.returns
returns c = c.put_row.ensures ∙ entering.opened_here c.args.memory.now c.args.line c.args.output c.args.moment c.if-line-eq0.false c.if-line-ge-ELSEWHERE.false _ c.from.ensures
