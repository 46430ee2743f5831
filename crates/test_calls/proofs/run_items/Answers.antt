-- `test_calls::run_items` meets its contract.
use mathlib.Core.Path.{refl, ap, ◌∙◌}
use native.Mathlib.Omega.{arith}
use lib.ListN.{length}
use Rattle.test_calls.proofs.Turning.{begun, told_of, one_agrees, one_fails, ended, ended_place}
use Rattle.test_calls.proofs.run_items.Goals as goal
use Rattle.test_calls.proofs.run_items.Goals.{then-not-run_item, else-not-run_item}

pub loop-done-init : goal.loop-done-init
loop-done-init c = (omega arith, refl, refl, refl, begun)

pub loop-done-preserved : goal.loop-done-preserved
loop-done-preserved c =
    let i = c.loop-done.invariant in
    let r = c.run_item in
    let h = c.loop-done-test.true in (
      elim c.if-not-run_item.branch [ then-not-run_item w ↦ omega arith | else-not-run_item w ↦ omega arith ],
      r.ensures.0 ∙ i.1,
      r.auto.machine ∙ i.2,
      r.auto.kept ∙ i.3,
      elim c.if-not-run_item.branch [
        | then-not-run_item w ↦ one_fails c.after_item-at.ensures (omega arith) i.4 (told_of i.1 w.if-not-run_item.true r.ensures.1) (omega arith)
        | else-not-run_item w ↦ one_agrees c.after_item-at.ensures (omega arith) i.4 (told_of i.1 w.if-not-run_item.false r.ensures.1) w.failed-is
      ],
    )

pub shape_of-table : goal.shape_of-table
shape_of-table c = ap length c.loop-done.invariant.1

pub shape_of-machine : goal.shape_of-machine
shape_of-machine c = c.loop-done.invariant.2

pub shape_of-kept : goal.shape_of-kept
shape_of-kept c = c.loop-done.invariant.3

pub returns : goal.returns
returns c =
    let i = c.loop-done.invariant in
    record { table_is_lem = i.1; next = ended_place (omega arith) i.4; few = omega arith; counts = ended (omega arith) i.4 }
