-- `call_instant_work::instant_work` meets its contract.
use native.Mathlib.Omega.{arith}
use Prim.Native.Nat.{◌<◌}
use mathlib.Core.Path.{refl}
use Rattle.walk.specs.Calls.{Words32}
use Rattle.call_instant_work.proofs.Working.{may_begin, may_run, may_conclude, instant_concludes}
use borrow.Author.Rules.{rules}
use Rattle.call_instant_work.proofs.instant_work.Goals as goal

pub begin_instant-ready-requires : goal.begin_instant-ready-requires
begin_instant-ready-requires c =
    let a = c.args in
    may_begin a.table.now a.machine.now a.present.0 a.dues.now a.in_numbers.now a.in_values.now a.allowance c.requires.1 (λ k. omega (arith, c.slice_known-1.given k))

pub run_ready-ran-requires : goal.run_ready-ran-requires
run_ready-ran-requires c =
    let a = c.args in
    may_run a.table.now a.machine.now a.present.0 a.dues.now a.in_numbers.now a.in_values.now a.allowance c.requires.1 (λ k. omega (arith, c.slice_known-1.given k))
    _ _ c.begin_instant-ready.ensures _ refl

pub conclude-requires : goal.conclude-requires
conclude-requires c =
    let a = c.args in
    let p = c.requires in
    let small : Words32 a.machine.now = λ k. omega (arith, c.slice_known-1.given k) in
    let words : Words32 a.in_values.now = λ k. omega (arith, c.type_inv.in_values k) in
    let below : a.present.0 < 18446744073709551616 = omega (arith, c.well_formed) in (
      p.0,
      may_conclude a.table.now a.machine.now a.present.0 a.dues.now a.in_numbers.now a.in_values.now a.allowance p.1 small
          _ _ c.begin_instant-ready.ensures _ refl _ _ c.run_ready-ran.ensures below words,
      p.2,
      p.3,
    )

pub returns : goal.returns
returns c =
    let a = c.args in
    let small : Words32 a.machine.now = λ k. omega (arith, c.slice_known-1.given k) in
    let words : Words32 a.in_values.now = λ k. omega (arith, c.type_inv.in_values k) in
    let below : a.present.0 < 18446744073709551616 = omega (arith, c.well_formed) in
    λ may.
    instant_concludes a.table.now a.machine.now a.present.0 a.dues.now a.in_numbers.now a.in_values.now a.allowance may small
    _ _ c.begin_instant-ready.ensures _ refl _ _ c.run_ready-ran.ensures below words _ _ _ _ _ _
    (c.conclude.ensures (may_conclude a.table.now a.machine.now a.present.0 a.dues.now a.in_numbers.now a.in_values.now a.allowance may small
    _ _ c.begin_instant-ready.ensures _ refl _ _ c.run_ready-ran.ensures below words))
