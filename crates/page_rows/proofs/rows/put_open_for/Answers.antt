-- `page_rows::put_open_for` meets its contract.
use native.Mathlib.Omega.{arith}
use Rattle.page_rows.proofs.Columns as column
use Rattle.page_rows.proofs.rows.put_open_for.Goals as goal

pub put_figure-requires : goal.put_figure-requires
put_figure-requires c = (omega arith, omega arith, omega arith, column.few_digits c.args.milliseconds c.ranges.milliseconds.fits)
