-- `session_print::put_figure` meets its contract.
use mathlib.Core.Path.{ap}
use native.Mathlib.Omega.{arith}
use Prim.Native.Nat.{◌+◌}
use Rattle.session_print.proofs.Decimals as decimals
use Rattle.session_print.proofs.figure.put_figure.Goals as goal

pub loop-k-init : goal.loop-k-init
loop-k-init c = decimals.storing_begun _ _ _ _

pub overflow_add-at : goal.overflow_add-at
overflow_add-at c =
    let few = c.loop-k.invariant.few in
    let most = c.digit_count-count.ensures.1 in
    let small = c.requires in
    record { fits = omega arith }

pub loop-k-smaller : goal.loop-k-smaller
loop-k-smaller c = omega (arith, c.loop-k-test.true)

pub loop-k-preserved : goal.loop-k-preserved
loop-k-preserved c =
    let v = c.loop-k in
    let a = c.args in
    decimals.storing_on _ a.at a.n _ _ _ _ v.invariant (omega (arith, c.loop-k-test.true))
    _ c.digit.ensures _ c.put_byte.ensures

pub overflow_add-result : goal.overflow_add-result
overflow_add-result c =
    let most = c.digit_count-count.ensures.1 in
    let small = c.requires in
    record { fits = omega arith }

pub shape_of-out : goal.shape_of-out
shape_of-out c = c.loop-k.invariant.long

pub returns : goal.returns
returns c =
    let v = c.loop-k in
    let a = c.args in
    let e = c.digit_count-count.ensures in (
      record {
        past = ap (λ k. a.at + k) e.0;
        stored = decimals.storing_done _ a.at a.n _ _ _ _ v.invariant (omega (arith, c.loop-k-test.false)) e.0;
      },
      omega (arith, e.1),
    )
