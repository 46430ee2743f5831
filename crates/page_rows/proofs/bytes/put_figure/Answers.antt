-- `page_rows::put_figure` meets its contract.
use native.Mathlib.Omega.{arith}
use Rattle.page_rows.proofs.Columns as column
use Rattle.page_rows.proofs.bytes.put_figure.Goals as goal

pub loop-k-preserved : goal.loop-k-preserved
loop-k-preserved c =
    let v = c.loop-k in
    let a = c.args in
    column.storing_on _ a.at _ _ _ _ _ v.invariant (omega (arith, c.loop-k-test.true)) _ c.column_byte.ensures c.put_byte-in-loop-k.ensures

pub returns : goal.returns
returns c =
    let a = c.args in
    let p = c.requires in
    column.storing_done a.out.now a.at a.columns a.n p.1 p.3 _ c.digit.ensures c.put_byte.ensures _ _ _ c.loop-k.invariant (omega (arith, c.loop-k-test.false))
