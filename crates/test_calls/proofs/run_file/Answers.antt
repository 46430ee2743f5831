use mathlib.Core.Path.{◌∙◌}
use native.Mathlib.Omega.{arith}
use Rattle.test_calls.proofs.Turning.{cases_begun, case_agrees, case_fails, cases_ended}
use Rattle.test_calls.proofs.run_file.Goals as goal
use Rattle.test_calls.proofs.run_file.Goals.{then-run-ne0, else-run-ne0}

pub loop-done-init : goal.loop-done-init
loop-done-init c = (omega arith, cases_begun c.past-at.ensures)

pub loop-done-preserved : goal.loop-done-preserved
loop-done-preserved c =
    let i = c.loop-done.invariant in
    let r = c.run_case-run.ensures in
    let h = c.loop-done-test.true in (
      elim c.if-run-ne0.branch [ then-run-ne0 w ↦ omega arith | else-run-ne0 w ↦ omega arith ],
      elim c.if-run-ne0.branch [
        | then-run-ne0 w ↦ case_fails r.next h r.counts i.1 w.if-run-ne0.true w.failed-is
        | else-run-ne0 w ↦ case_agrees r.next h r.counts i.1 w.if-run-ne0.false w.failed-is
      ],
    )

pub returns : goal.returns
returns c =
    let i = c.loop-done.invariant in
    record { count = c.from-cases.ensures ∙ c.word_at.ensures; few = omega arith; failed = omega arith; counts = cases_ended c.loop-done-test.false i.1 }
