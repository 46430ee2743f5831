-- `table_check_cells::expression_passes` meets its contract.
use Prim.Native.Nat.{◌+◌, ◌*◌, ◌-◌}
use mathlib.Core.Path.{◌≡◌, sym, ◌∙◌}
use native.Mathlib.Omega.{arith}
use Rattle.table_check_cells.proofs.Expressions as expressions
use Rattle.table_check_cells.proofs.expression_passes.Goals as goal

pub loop-i-init : goal.loop-i-init
loop-i-init c =
    let a = c.args in
    let z : a.a + 2 * 0 ≡ a.a = omega arith in
    let y : a.n - 0 ≡ a.n = omega arith in
    (omega arith, rw (z, y))

pub returns-then-held-eq-OUT_OF_FORM : goal.returns-then-held-eq-OUT_OF_FORM
returns-then-held-eq-OUT_OF_FORM c =
    let v = c.loop-i in
    let a = c.args in
    sym (expressions.expression_stop a.t.now a.names v.held (a.a + 2 * v.i) v.invariant.0 (a.n - v.i) (omega arith) (sym c.held_past-held.ensures ∙ c.if-held-eq-OUT_OF_FORM.true)) ∙ v.invariant.1

pub loop-i-preserved : goal.loop-i-preserved
loop-i-preserved c =
    let v = c.loop-i in
    let a = c.args in
    let past = c.held_past-held.ensures in
    let turn = expressions.expression_turn a.t.now a.names v.held (a.a + 2 * v.i) v.invariant.0 (a.n - v.i) (a.n - (v.i + 1)) (a.a + 2 * (v.i + 1)) c.held_past-held.result (omega arith) (omega arith) past c.if-held-eq-OUT_OF_FORM.false in
    (expressions.next_most a.t.now a.names v.held (a.a + 2 * v.i) v.invariant.0 _ past c.if-held-eq-OUT_OF_FORM.false, turn ∙ v.invariant.1)

pub returns : goal.returns
returns c =
    let v = c.loop-i in
    let a = c.args in
    sym (expressions.expression_end a.t.now a.names v.held (a.a + 2 * v.i) (a.n - v.i) (omega arith)) ∙ v.invariant.1
