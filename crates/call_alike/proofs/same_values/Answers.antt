-- `call_alike::same_values` meets its contract.
use mathlib.Core.Path.{sym, ◌∙◌}
use native.Mathlib.Omega.{arith}
use Rattle.call_alike.proofs.Comparing.{same_begins, same_more, same_not, same_ends}
use Rattle.call_alike.proofs.same_values.Goals as goal

pub loop-i-init : goal.loop-i-init
loop-i-init c = let a = c.args in (omega arith, same_begins a.a.now a.b.now a.k)

pub returns-then-a-at : goal.returns-then-a-at
returns-then-a-at c =
    let v = c.loop-i in
    let a = c.args in
    sym (same_not a.a.now a.b.now a.k v.i (omega arith) (omega arith) c.if-a-at.true) ∙ v.invariant.1

pub loop-i-preserved : goal.loop-i-preserved
loop-i-preserved c =
    let v = c.loop-i in
    let a = c.args in
    (omega arith, sym (same_more a.a.now a.b.now a.k v.i (omega arith) (omega arith) c.if-a-at.false) ∙ v.invariant.1)

pub returns : goal.returns
returns c =
    let v = c.loop-i in
    let a = c.args in
    sym (same_ends a.a.now a.b.now a.k v.i (omega arith)) ∙ v.invariant.1
