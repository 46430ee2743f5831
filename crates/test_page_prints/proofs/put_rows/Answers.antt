-- `test_page_prints::put_rows` meets its contract.
use Rattle.session_print.proofs.ListedWrites.{still_long}
use Rattle.test_page_prints.proofs.Printing.{rowing_begun, rowing_on, rowing_done}
use Rattle.test_page_prints.proofs.put_rows.Goals as goal

pub loop-line-init : goal.loop-line-init
loop-line-init c = rowing_begun _ _ _

pub loop-line-preserved : goal.loop-line-preserved
loop-line-preserved c = rowing_on c.loop-line.invariant c.loop-line-test.true c.put_row-next.ensures

pub shape_of-out : goal.shape_of-out
shape_of-out c = still_long c.loop-line.invariant.puts

pub returns : goal.returns
returns c = rowing_done c.loop-line.invariant c.loop-line-test.false
