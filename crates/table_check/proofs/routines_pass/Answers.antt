-- `table_check::routines_pass` meets its contract.
use Prim.Native.Nat.{ℕ, ◌+◌, ◌-◌, ◌*◌}
use mathlib.Core.Path.{◌≡◌, sym, ap, ◌∙◌}
use native.Mathlib.Omega.{arith}
use Rattle.std.proofs.Common.{Some, None}
use Rattle.table_check_ends.specs.Ends.{tail_test}
use Rattle.table_check.specs.Check.{routine_past, pass_from}
use Rattle.table_check.proofs.RoutinePass as routines
use Rattle.table_check.proofs.routines_pass.Goals as goal

pub loop-number-init : goal.loop-number-init
loop-number-init c =
    let a = c.args in
    let z : a.n - 0 ≡ a.n = omega arith in
    (omega arith, omega arith, ap (λ (k : ℕ). pass_from a.t.now 0 0 2888 k) z)

pub returns-in_default : goal.returns-in_default
returns-in_default c =
    let v = c.loop-number in
    let a = c.args in
    let z : routine_past a.t.now v.number v.first v.cells ≡ None = sym c.routine_past.ensures ∙ c.in_default.is in
    sym (routines.pass_stop a.t.now v.number v.first v.cells (a.n - v.number) (omega arith) z) ∙ v.invariant.2

pub overflow_cast-first : goal.overflow_cast-first
overflow_cast-first c = omega (arith, c.type_inv.t (8 + 5 * c.loop-number.number + 4))

pub overflow_add-first-in-loop-number : goal.overflow_add-first-in-loop-number
overflow_add-first-in-loop-number c =
    let v = c.loop-number in
    omega (arith, (routines.routine_past_room c.args.t.now v.number v.first v.cells _ (sym c.routine_past.ensures ∙ c.in-Some.is)).0)

pub loop-number-preserved : goal.loop-number-preserved
loop-number-preserved c =
    let v = c.loop-number in
    let a = c.args in
    let w = a.t.now in
    let q : routine_past w v.number v.first v.cells ≡ Some _ = sym c.routine_past.ensures ∙ c.in-Some.is in
    let room = routines.routine_past_room w v.number v.first v.cells _ q in
    let turn = routines.pass_turn w v.number v.first v.cells (a.n - v.number) (a.n - (v.number + 1)) _ (omega arith) q in
    (omega arith, omega arith, turn ∙ v.invariant.2)

pub returns : goal.returns
returns c =
    let v = c.loop-number in
    let a = c.args in
    let w = a.t.now in
    let y : a.n ≡ v.number = omega arith in
    c.tail_passes.ensures ∙ (ap (λ (k : ℕ). tail_test w k v.first v.cells) y ∙ (sym (routines.pass_end w v.number v.first v.cells (a.n - v.number) (omega arith)) ∙ v.invariant.2))
