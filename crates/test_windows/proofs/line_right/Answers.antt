-- `test_windows::line_right` meets its contract.
use Rattle.test_windows.proofs.Passing.{by_line}
use Rattle.test_windows.proofs.line_right.Goals as goal

pub returns : goal.returns
returns c = by_line _ _ _ c.first_bad_line.ensures
