-- `table_check::all_by_reference` meets its contract.
use Prim.Native.Nat.{◌+◌, ◌-◌}
use mathlib.Core.Path.{◌≡◌, sym, ◌∙◌}
use native.Mathlib.Omega.{arith}
use Rattle.table_check.proofs.Opening as opening
use Rattle.table_check.proofs.all_by_reference.Goals as goal

pub loop-init : goal.loop-init
loop-init c = let z : c.args.arguments - 0 ≡ c.args.arguments = omega arith in rw z

pub returns-then-rest-ne1 : goal.returns-then-rest-ne1
returns-then-rest-ne1 c =
    let v = c.loop in
    sym (opening.references_stop (c.args.arguments - v.counter) v.rest (omega arith) c.if-rest-ne1.true) ∙ v.invariant

pub loop-preserved : goal.loop-preserved
loop-preserved c =
    let v = c.loop in
    let n = c.args.arguments in
    opening.references_turn (n - v.counter) (n - (v.counter + 1)) v.rest (omega arith) (omega arith) ∙ v.invariant

pub returns : goal.returns
returns c =
    let v = c.loop in
    sym (opening.references_end (c.args.arguments - v.counter) v.rest (omega arith)) ∙ v.invariant
