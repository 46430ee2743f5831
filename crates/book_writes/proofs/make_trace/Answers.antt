-- `book_writes::make_trace` meets its contract.
use mathlib.Core.Path.{ap, ◌∙◌}
use Prim.Native.Nat.{ℕ}
use native.Mathlib.Omega.{arith}
use lib.ListN.{set}
use Rattle.book_writes.specs.Gathered.{as_in_trace}
use Rattle.book_writes.proofs.Gathering as gathering
use Rattle.book_writes.proofs.make_trace.Goals as goal

pub loop-b-preserved : goal.loop-b-preserved
loop-b-preserved c =
    let v = c.loop-b in
    let m = c.args.print.now in
    ap (λ (b : ℕ). set v.print v.b-index b) c.as_in_trace.ensures ∙ gathering.mapped_next as_in_trace m v.print v.b-index (omega arith) v.invariant

pub returns : goal.returns
returns c = gathering.mapped_all as_in_trace _ _ c.loop-b.b-index (omega arith) c.loop-b.invariant
