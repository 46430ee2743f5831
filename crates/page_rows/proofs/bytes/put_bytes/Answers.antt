-- `page_rows::put_bytes` meets its contract.
use mathlib.Core.Path.{ap, ◌∙◌}
use native.Mathlib.Omega.{arith}
use lib.Seq.{sets, take_all}
use Rattle.page_rows.proofs.Stores as stores
use Rattle.page_rows.proofs.bytes.put_bytes.Goals as goal

pub loop-k-preserved : goal.loop-k-preserved
loop-k-preserved c =
    let v = c.loop-k in
    let a = c.args in
    c.put_byte.ensures ∙ stores.byte_stored a.out.now a.at a.bytes.now v.k (omega arith) v.invariant

pub returns : goal.returns
returns c = c.loop-k.invariant ∙ ap (sets c.args.out.now c.args.at) (take_all c.loop-k.k c.args.bytes.now (omega arith))
