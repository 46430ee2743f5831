-- `schedule_count::count_changes` meets its contract.
use mathlib.Core.Path.{◌≡◌, sym, ap}
use native.Mathlib.Omega.{arith}
use lib.ListN.{length}
use Rattle.schedule_minutes.proofs.Changes.{changes_none, no_changes, count_stays, count_grows}
use Rattle.schedule_count.proofs.count_changes.Goals as goal
use Rattle.schedule_count.proofs.count_changes.Goals.{else-bit_of, then-bit_of}

pub returns-then-before-at : goal.returns-then-before-at
returns-then-before-at c = (λ m. rw c.if-before-at.true (sym (ap length (changes_none m _ 16))), omega arith)

pub loop-input-init : goal.loop-input-init
loop-input-init c = (omega arith, λ m. sym (ap length (no_changes m _ _)))

pub loop-input-preserved : goal.loop-input-preserved
loop-input-preserved c =
    let v = c.loop-input in
    let a = c.args in
    let p = c.bit_of.ensures in
    let q = c.bit_of-in-loop-input.ensures in (
      (elim c.if-bit_of.branch [ then-bit_of _ ↦ omega arith | else-bit_of _ ↦ omega arith ]),
      λ m. (elim c.if-bit_of.branch [ then-bit_of w ↦ omega (arith, count_grows m v.input a.before a.at _ _ p q w.if-bit_of.true, v.invariant.1 m, w.count-is) | else-bit_of w ↦ omega (arith, count_stays m v.input a.before a.at _ _ p q w.if-bit_of.false, v.invariant.1 m, w.count-is) ]),
    )

pub returns : goal.returns
returns c =
    let v = c.loop-input in
    let e : v.input ≡ 16 = omega arith in
    (rw e at v.invariant.1, omega arith)
