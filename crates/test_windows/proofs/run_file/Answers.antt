-- `test_windows::run_file` meets its contract.
use mathlib.Core.Path.{◌∙◌}
use native.Mathlib.Omega.{arith}
use Rattle.test_windows.proofs.Turning.{begun, one_agrees, one_fails, ended}
use Rattle.test_windows.proofs.run_file.Goals as goal
use Rattle.test_windows.proofs.run_file.Goals.{then-not-run_case, else-not-run_case}

pub loop-done-init : goal.loop-done-init
loop-done-init c = (omega arith, begun c.past-at.ensures)

pub run_case-requires : goal.run_case-requires
run_case-requires c =
    let e = c.case_at-case.ensures in
    let m = e.asked.moments_are in
    let i = e.asked.inputs_are_lem in
    let v = e.asked.values_are in
    (e.ordered, e.within, omega arith, omega arith, omega arith)

pub loop-done-preserved : goal.loop-done-preserved
loop-done-preserved c =
    let case = c.case_at-case in
    let more = c.loop-done-test.true in
    let v = c.loop-done.invariant in (
      elim c.if-not-run_case.branch [ then-not-run_case w ↦ omega arith | else-not-run_case w ↦ omega arith ],
      elim c.if-not-run_case.branch [
        | then-not-run_case w ↦ one_fails c.loop-done.failed (omega arith)
        | else-not-run_case w ↦ one_agrees case.result case.ensures (c.run_case.ensures.means w.if-not-run_case.false) more w.failed-is v.1
      ],
    )

pub returns : goal.returns
returns c =
    let v = c.loop-done.invariant in
    record {
      count = c.from-cases.ensures ∙ c.word_at.ensures;
      few = omega arith;
      failed = omega arith;
      agree = λ z. ended c.loop-done-test.false v.1 z;
    }
