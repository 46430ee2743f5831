use mathlib.Core.Path.{refl, ap, ◌∙◌}
use Prim.Native.Nat.{ℕ}
use native.Mathlib.Omega.{arith}
use lib.Dec.{leb}
use Rattle.test_load.proofs.Turning.{begun, one_agrees, one_fails, ended}
use Rattle.test_load.proofs.run_file.Goals as goal
use Rattle.test_load.proofs.run_file.Goals.{then-not-run_case, else-not-run_case}

pub loop-done-init : goal.loop-done-init
loop-done-init c = (omega arith, refl, refl, begun c.past-at.ensures)

pub loop-done-preserved : goal.loop-done-preserved
loop-done-preserved c =
    let v = c.loop-done.invariant in
    let r = c.run_case in
    let case = c.case_at-case in
    let more = c.loop-done-test.true in (
      elim c.if-not-run_case.branch [ then-not-run_case w ↦ omega arith | else-not-run_case w ↦ omega arith ],
      r.auto.table ∙ v.1,
      r.auto.other ∙ v.2,
      elim c.if-not-run_case.branch [
        | then-not-run_case w ↦ one_fails c.loop-done.failed w.failed-is
        | else-not-run_case w ↦ one_agrees case.result case.ensures (ap (λ (n : ℕ). leb 12288 n) v.1) (r.ensures.tells.means w.if-not-run_case.false).first more w.failed-is v.3
      ],
    )

pub returns : goal.returns
returns c =
    let v = c.loop-done.invariant in
    record {
      count = c.from-cases.ensures ∙ c.word_at.ensures;
      few = omega arith;
      failed = omega arith;
      agree = λ z. ended c.loop-done-test.false v.3 z;
      as_long = v.1;
      other_as_long = v.2;
    }
