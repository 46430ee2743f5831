-- `table_check::kinds_fit` meets its contract.
use Prim.Native.Nat.{◌+◌, ◌-◌}
use mathlib.Core.Path.{◌≡◌, sym, ◌∙◌}
use native.Mathlib.Omega.{arith}
use Rattle.table_check.proofs.Opening as opening
use Rattle.table_check.proofs.kinds_fit.Goals as goal

pub loop-init : goal.loop-init
loop-init c = let z : c.args.arguments - 0 ≡ c.args.arguments = omega arith in rw z

pub loop-preserved : goal.loop-preserved
loop-preserved c =
    let v = c.loop in
    let n = c.args.arguments in
    opening.kinds_fit_turn (n - v.counter) (n - (v.counter + 1)) v.rest (omega arith) ∙ v.invariant

pub returns : goal.returns
returns c =
    let v = c.loop in
    sym (opening.kinds_fit_end (c.args.arguments - v.counter) v.rest (omega arith)) ∙ v.invariant
