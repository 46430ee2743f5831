-- `page_book::line_of` meets its contract.
use native.Mathlib.Omega.{arith}
use Rattle.page_book.proofs.Entering as entering
use Rattle.page_book.proofs.valves.line_of.Goals as goal

pub returns-then-number-first : goal.returns-then-number-first
returns-then-number-first c = (entering.line_before c.args.first c.args.number (omega arith), omega arith)

pub returns-then-place-ge-OPENINGS_ON_PAGE : goal.returns-then-place-ge-OPENINGS_ON_PAGE
returns-then-place-ge-OPENINGS_ON_PAGE c = (entering.line_behind c.args.first c.args.number (omega arith) (omega arith), omega arith)

pub returns : goal.returns
returns c = (entering.line_here_lem c.args.first c.args.number (omega arith) (omega arith), omega arith)
