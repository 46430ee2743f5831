-- `page_rows::put_blank_rows` meets its contract.
use mathlib.Core.Path.{refl}
use Rattle.page_rows.specs.Rows.{blank_row, joined}
use Rattle.page_rows.proofs.Stores as stores
use Rattle.page_rows.proofs.RowBytes as bytes
use Rattle.page_rows.proofs.rows.put_blank_rows.Goals as goal

pub loop-line-init : goal.loop-line-init
unfolding joined
loop-line-init c = refl

pub loop-line-preserved : goal.loop-line-preserved
loop-line-preserved c =
    let v = c.loop-line in
    let a = c.args in
    stores.row_stored a.out.now v.line 45 blank_row bytes.blank_length v.invariant (bytes.blank_put v.out _ c.put_repeated.ensures c.put_byte.ensures)
