-- `page_rows::put_row` meets its contract.
use native.Mathlib.Omega.{arith}
use Prim.Native.Nat.{◌*◌}
use Rattle.page_rows.proofs.Columns as column
use Rattle.page_rows.proofs.RowBytes as bytes
use Rattle.page_rows.proofs.rows.put_row.Goals as goal

pub put_figure-requires : goal.put_figure-requires
put_figure-requires c = (omega arith, omega arith, omega arith, rw c.from.ensures (column.two_digits c.args.output c.requires.1))

pub put_figure-requires-2 : goal.put_figure-requires-2
put_figure-requires-2 c = (omega arith, omega arith, omega arith, column.few_digits c.args.opened c.ranges.opened.fits)

pub returns : goal.returns
returns c =
    let a = c.args in
    bytes.row_put a.out.now (a.line * 45) a.output a.opened (column.two_digits a.output c.requires.1) (column.few_digits a.opened c.ranges.opened.fits)
    (rw c.from.ensures at c.put_figure.ensures) c.put_byte.ensures c.put_figure-2.ensures c.put_byte-2.ensures c.put_repeated.ensures c.put_byte-3.ensures
