-- `table_check_cells::names_pass` meets its contract.
use Prim.Native.Nat.{◌+◌, ◌*◌, ◌-◌}
use mathlib.Core.Path.{◌≡◌, sym, ◌∙◌}
use native.Mathlib.Omega.{arith}
use Rattle.table_check_cells.proofs.Cells as cells
use Rattle.table_check_cells.proofs.names_pass.Goals as goal
use Rattle.table_check_cells.proofs.names_pass.Goals.{then-t-at-ne0-via-then-t-at-ne0, then-t-at-ne0-via-else-t-at-ne0+then-t-at}

pub loop-i-init : goal.loop-i-init
loop-i-init c =
    let a = c.args in
    let z : a.a + 2 * 0 ≡ a.a = omega arith in
    let y : a.n - 0 ≡ a.n = omega arith in
    rw (z, y)

pub returns-then-t-at-ne0 : goal.returns-then-t-at-ne0
returns-then-t-at-ne0 c =
    let v = c.loop-i in
    let a = c.args in
    elim c.then-t-at-ne0.branch [
      | then-t-at-ne0-via-then-t-at-ne0 w ↦ sym (cells.names_marked a.t.now a.names (a.a + 2 * v.i) (a.n - v.i) (omega arith) w.if-t-at-ne0.true) ∙ v.invariant
      | then-t-at-ne0-via-else-t-at-ne0+then-t-at w ↦ sym (cells.names_past a.t.now a.names (a.a + 2 * v.i) (a.n - v.i) (omega arith) w.if-t-at.true) ∙ v.invariant
    ]

pub loop-i-preserved : goal.loop-i-preserved
loop-i-preserved c =
    let v = c.loop-i in
    let a = c.args in
    cells.names_turn a.t.now a.names (a.a + 2 * v.i) (a.n - v.i) (a.n - (v.i + 1)) (a.a + 2 * (v.i + 1)) (omega arith) (omega arith) (omega arith) (omega arith) ∙ v.invariant

pub returns : goal.returns
returns c =
    let v = c.loop-i in
    let a = c.args in
    sym (cells.names_end a.t.now a.names (a.a + 2 * v.i) (a.n - v.i) (omega arith)) ∙ v.invariant
