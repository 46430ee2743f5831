-- `table_check_code::code_past` meets its contract.
use Prim.Native.Nat.{◌+◌, ◌*◌, ◌-◌}
use mathlib.Core.Path.{◌≡◌, sym, ◌∙◌}
use native.Mathlib.Omega.{arith}
use Rattle.std.proofs.Common.{Some, None}
use Rattle.table_check_cells.specs.Pass.{entry_past}
use Rattle.table_check_code.proofs.Instructions as instructions
use Rattle.table_check_code.proofs.code_past.Goals as goal

pub loop-i-init : goal.loop-i-init
loop-i-init c =
    let a = c.args in
    let z : a.e + 5 * 0 ≡ a.e = omega arith in
    let y : a.n - 0 ≡ a.n = omega arith in
    (omega arith, rw (z, y))

pub returns-in_err-next : goal.returns-in_err-next
returns-in_err-next c =
    let v = c.loop-i in
    let a = c.args in
    let z : entry_past a.t.now a.names a.size (a.e + 5 * v.i) v.next ≡ None = sym c.entry_past.ensures ∙ c.in_err-next.was in
    c.from_residual.ensures ∙ (sym (instructions.code_past_stop a.t.now a.names a.size (a.e + 5 * v.i) v.next (a.n - v.i) (omega arith) z) ∙ v.invariant.1)

pub loop-i-preserved : goal.loop-i-preserved
loop-i-preserved c =
    let v = c.loop-i in
    let a = c.args in
    let z : entry_past a.t.now a.names a.size (a.e + 5 * v.i) v.next ≡ Some _ = sym c.entry_past.ensures ∙ c.in_ok-next.was in (
      instructions.entry_past_top a.t.now a.names a.size (a.e + 5 * v.i) v.next _ z,
      instructions.code_past_more a.t.now a.names a.size (a.e + 5 * v.i) v.next (a.n - v.i) (a.n - (v.i + 1)) (a.e + 5 * (v.i + 1)) _ (omega arith) (omega arith) z ∙ v.invariant.1,
    )

pub returns : goal.returns
returns c =
    let v = c.loop-i in
    let a = c.args in
    sym (instructions.code_past_none a.t.now a.names a.size (a.e + 5 * v.i) v.next (a.n - v.i) (omega arith)) ∙ v.invariant.1
