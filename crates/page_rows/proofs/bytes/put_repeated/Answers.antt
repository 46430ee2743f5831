-- `page_rows::put_repeated` meets its contract.
use mathlib.Core.Path.{◌∙◌}
use Rattle.page_rows.proofs.Stores as stores
use Rattle.page_rows.proofs.bytes.put_repeated.Goals as goal

pub loop-k-preserved : goal.loop-k-preserved
loop-k-preserved c =
    let v = c.loop-k in
    let a = c.args in
    c.put_byte.ensures ∙ stores.again_stored a.out.now a.at a.b v.k v.invariant
